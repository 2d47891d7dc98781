-- The invariant: the digits passed made the value, and those of the n bytes still to come are counted and read onto it.
use Rattle.std.proofs.Common.{◌≡◌, ℕ, ◌+◌, ◌-◌, ◌^◌, ◌≤◌, ◌<◌, List, length, drop}
use Rattle.text.specs.Whole.{digit_count, digit_value}
use Rattle.text.proofs.whole.read_digits.Given as goal

pub record Passed (s rest : List ℕ) (from value end n : ℕ) : Type 0 where
  pub most : n ≤ 4
  pub small : value < 10 ^ (4 - n)
  pub inside : end + length rest ≡ length s
  pub counted : from + digit_count 4 (drop from s) ≡ end + digit_count n rest
  pub valued : digit_value 4 0 (drop from s) ≡ digit_value n value rest

abbrev pub invariant-loop-b : goal.invariant-loop-b
invariant-loop-b l = Passed l.from.text.now l.b-iterator.iter.rest.now l.from.index l.digits.value l.digits.end l.b-iterator.n
