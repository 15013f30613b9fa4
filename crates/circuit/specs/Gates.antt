-- What a gate computes, over any logic: its pins' values and the value of its own line give the value that it drives.
use Rattle.std.specs.Prelude.{◌≡◌, ℕ, zero, suc, ◌-◌, ◌/◌, ◌%◌, ◌^◌, ◌<◌, Bool, true, false, cond, ◌==◌, slice_index}
pub use Rattle.ternary.specs.Logics.{Logic, two_valued}
use Rattle.circuit.specs.declared.gate.Sum.{Sum}
use Rattle.circuit.specs.declared.gate.Function.{Function}
use Rattle.circuit.specs.declared.gate.Function.TheVariants.{Complex, CElement}
use Rattle.circuit.specs.declared.gate.Gate.{Gate}

-- bit j of a mask
abbrev pub bit : ℕ → ℕ → Bool
bit mask j = (mask / 2 ^ j) % 2 == 1

-- the mask that has the first pins, and no others
abbrev pub all_pins : ℕ → ℕ
all_pins pins = 2 ^ pins - 1

-- pin j, inverted where the mask says so
unfoldable pub literal : {A : Type 0} → Logic A → (ℕ → A) → ℕ → ℕ → A
literal L pin inverted j = cond (bit inverted j) (L.invert (pin j)) (pin j)

-- the AND of the used ones of the first pins
abbrev pub product : {A : Type 0} → Logic A → (ℕ → A) → ℕ → ℕ → ℕ → A
product L pin used inverted zero = L.const true
product L pin used inverted (suc j) = cond (bit used j) (L.both (product L pin used inverted j) (literal L pin inverted j)) (product L pin used inverted j)

-- the OR of the first products
abbrev pub sum : {A : Type 0} → Logic A → (ℕ → A) → ℕ → Sum → ℕ → A
sum L pin pins s zero = L.const false
sum L pin pins s (suc p) = L.either (sum L pin pins s p) (product L pin (slice_index s.used p) (slice_index s.inverted p) pins)

-- the AND of the first pins, all of them
abbrev pub all : {A : Type 0} → Logic A → (ℕ → A) → ℕ → ℕ → A
all L pin inverted zero = L.const true
all L pin inverted (suc j) = L.both (all L pin inverted j) (literal L pin inverted j)

-- the OR, over the first pins, of that pin and the gate's own line
abbrev pub hold : {A : Type 0} → Logic A → (ℕ → A) → A → ℕ → ℕ → A
hold L pin own inverted zero = L.const false
hold L pin own inverted (suc j) = L.either (hold L pin own inverted j) (L.both (literal L pin inverted j) own)

abbrev pub function_of : {A : Type 0} → Logic A → (ℕ → A) → A → ℕ → Function → A
function_of L pin own pins (Complex s) = sum L pin pins s s.products
function_of L pin own pins (CElement inverted) = L.either (all L pin inverted pins) (hold L pin own inverted pins)

-- the value that a gate drives, from the values of its pins and of its own line
unfoldable pub driven : {A : Type 0} → Logic A → Gate → (ℕ → A) → A → A
driven L g pin own = function_of L pin own g.pins g.function

-- each pin of a gate can be read, where `can j` says so of pin j
abbrev pub CanRead : (ℕ → Type 0) → Gate → Type 0
CanRead can g = (j : ℕ) → j < g.pins → can j

-- in circuit n the pins of a gate see these values, where reading pin j gives a signal r with `read j r`
abbrev pub Sees : {T A : Type 0} → (T → ℕ → A) → ℕ → (ℕ → T → Type 0) → Gate → (ℕ → A) → Type 0
Sees {T} meaning n read g pin = (j : ℕ) → j < g.pins → (r : T) → read j r → meaning r n ≡ pin j
