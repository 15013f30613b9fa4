-- What gates can be worked out over: anything with two constants, AND, OR and NOT.
use Rattle.std.specs.Prelude.{Bool, true, false, not, ◌&&◌, ◌||◌}
use Rattle.ternary.specs.declared.Value.{Value}
use Rattle.ternary.specs.declared.Value.TheVariants.{Zero, One, Two}
use Rattle.ternary.specs.Values.{of, and₃, or₃, not₃}

pub record Logic (A : Type 0) : Type 0 where
  pub const : Bool → A
  pub both : A → A → A
  pub either : A → A → A
  pub invert : A → A

-- on truth values
abbrev pub two_valued : Logic Bool
two_valued = record { const = λ b. b; both = ◌&&◌; either = ◌||◌; invert = not }

-- on 0, 1 and 2
abbrev pub three_valued : Logic Value
three_valued = record { const = of; both = and₃; either = or₃; invert = not₃ }

-- A value by its two tracks. An unsettled line may be 1 and may be 0.
pub record Tracks : Type 0 where
  pub may_be_1 : Bool
  pub may_be_0 : Bool

abbrev pub tracks : Value → Tracks
tracks Zero = record { may_be_1 = false; may_be_0 = true }
tracks One = record { may_be_1 = true; may_be_0 = false }
tracks Two = record { may_be_1 = true; may_be_0 = true }

-- by tracks: an AND may be 1 if both parts may, and may be 0 if either may; NOT swaps the tracks
abbrev pub by_tracks : Logic Tracks
by_tracks = record {
  const = λ b. record { may_be_1 = b; may_be_0 = not b };
  both = λ v w. record { may_be_1 = v.may_be_1 && w.may_be_1; may_be_0 = v.may_be_0 || w.may_be_0 };
  either = λ v w. record { may_be_1 = v.may_be_1 || w.may_be_1; may_be_0 = v.may_be_0 && w.may_be_0 };
  invert = λ v. record { may_be_1 = v.may_be_0; may_be_0 = v.may_be_1 };
}
