use Rattle.std.proofs.Common.{◌≡◌, ℕ, ◌+◌, ◌/◌, ◌<◌, ◌≤◌, false}
use Rattle.bit_map.specs.Bits.{in_words}
use Rattle.bit_map.proofs.words.lowest.Given as goal

-- no number is held from n up to here, which is in the word that comes next
abbrev pub invariant-loop-word : goal.invariant-loop-word
invariant-loop-word l = (l.n ≤ l.from) × (l.from / 64 ≡ l.n / 64 + l.word-index) × ((k : ℕ) → l.n ≤ k → k < l.from → in_words l.words k ≡ false)
