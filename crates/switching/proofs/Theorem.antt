-- The theorem, put together.
use Rattle.std.proofs.Common.{◌≡◌, ℕ, ◌+◌, ◌<◌, Bool, List, None, Option, sym, ◌∙◌, subst}
use Rattle.ternary.specs.Values.{of, ◌⊑◌}
use Rattle.ternary.proofs.Order.{of_within}
use Rattle.circuit.specs.declared.circuit.Circuit.{Circuit}
use Rattle.circuit.specs.declared.site.Fault.{Fault}
use Rattle.switching.specs.Lines.{Lines, line}
use Rattle.switching.specs.Chips.{chip}
use Rattle.switching.specs.Phases.{Idle}
use Rattle.switching.specs.Histories.{Event, start_lines, Ends, after, value}
use Rattle.switching.specs.Theorem.{EveryOrderIsCovered}
use Rattle.switching.proofs.Counts.{first_of_all}
use Rattle.switching.proofs.Functions.{extends, tracked, line_covered}
use Rattle.switching.proofs.Phases.{rests, lasts, ends}
use Rattle.switching.proofs.Covered.{Inside, steps_within, turns_inside, run_inside}
use Rattle.switching.proofs.Together.{a_run, turn_goes_on}

module _ (c : Circuit) where
  inside : (f : Option Fault) (h : List Event) (s : Lines Bool) → Ends c.netlist f h s → Inside (chip c.netlist f) (after c.netlist f h) s
  inside f h s run = run_inside (chip c.netlist f) (extends c f) (start_lines c.netlist) run

  -- where a line is settled, every run has its value
  at_value : (f : Option Fault) (h : List Event) (i : ℕ) → i < c.netlist.inputs + c.netlist.gates → (a : Bool) → value c.netlist f h i ≡ of a
      → (s : Lines Bool) → Ends c.netlist f h s → line c.netlist s i ≡ a
  at_value f h i lt a e s run =
      of_within (line c.netlist s i) a (subst (λ v. of (line c.netlist s i) ⊑ v) e (line_covered c.netlist f (after c.netlist f h) s (inside f h s run).covers i lt))

pub proved : EveryOrderIsCovered
proved c = record {
  extends = extends c;
  tracked = tracked c;
  comes_to_rest = record {
    rests = λ f phase old new. rests (chip c.netlist f) (extends c f) old new phase;
    lasts = λ f phase old new. lasts (chip c.netlist f) (extends c f) old new phase;
    ends = λ f phase old new. ends (chip c.netlist f) (extends c f) old new phase;
    side_by_side = λ phase new m f old own all.
        first_of_all m (λ i. Idle (chip c.netlist (f i)) phase (old i) new)
        (λ i j l _ idle le. (lasts (chip c.netlist (f i)) (extends c (f i)) (old i) new phase j l idle le).0) own all;
  };
  covers_every_run = record {
    runs = λ f. a_run (chip c.netlist f) (start_lines c.netlist);
    during = λ f h v s t run steps. (steps_within (chip c.netlist f) (extends c f) v (after c.netlist f h) (inside c f h s run) steps).covers;
    turned = λ f h v j s t run turns. (turns_inside (chip c.netlist f) (extends c f) v (after c.netlist f h) j (inside c f h s run) turns).covers;
    covered = λ f h s run. (inside c f h s run).covers;
    goes_on = λ f v. turn_goes_on (chip c.netlist f) v;
  };
  differs = λ f h i lt a b e e' apart s t good bad same.
      apart (sym (at_value c None h i lt a e s good) ∙ same ∙ at_value c f h i lt b e' t bad);
  agrees = λ f h i lt a e e' s t good bad. at_value c None h i lt a e s good ∙ sym (at_value c f h i lt a e' t bad);
}
