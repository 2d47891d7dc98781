use Prim.Native.Nat.{ℕ, ◌≤◌}
use mathlib.Core.Path.{◌≡◌, refl, sym}
use mathlib.Core.Bool.{true, false}
use mathlib.Core.List.{List}
use native.Mathlib.Omega.{arith}
use lib.ListN.{length, take}
use Rattle.text.specs.Put.{PutAt}
use Rattle.frame.proofs.Writing.{front_is}
use Rattle.tables.specs.Tables.{Tables}
use Rattle.model.specs.Box.{Box}
use Rattle.std.specs.Prelude.{Some}
use Rattle.lines.specs.Lines.{is_call, slice_of, line_of, held_after, no_call_line}
use Rattle.lines.proofs.Laws.{read_slice, read_no_call}
use Rattle.answers.specs.Answers.{line_answer, box_after, CallAnswered, LineAnswered}
use Rattle.answers.proofs.answer.answer_line.Goals as goal

-- ---- a line that is a slice of n bytes, which stand at the front of sl

module _ (line xs : List ℕ) {sl : List ℕ} {n : ℕ} (room : length xs ≡ 256) (read : (Some n ≡ line_of line) × (n ≤ 256)) (held : sl ≡ held_after xs line) where
  call_is : (is_call line ≡ true) × (n ≡ length (slice_of line))
  call_is = read_slice line n (sym read.0)

  slice_is : take n sl ≡ slice_of line
  unfolding held_after
  slice_is =
      let k : length (slice_of line) ≤ length xs = omega (arith, read.1, call_is.1) in
      rw (held, call_is.0, call_is.1) (front_is xs (slice_of line) k)

  call_answered : {b : Box} {zs us : List ℕ} {at r : ℕ} {t : Tables} → CallAnswered b (take n sl) zs at r us t → LineAnswered b line zs at r us t
  unfolding line_answer box_after
  call_answered a =
      record {
        answer_is = rw (call_is.0, ← slice_is) a.answer_is;
        tables_are = rw (call_is.0, ← slice_is) a.tables_are;
        short = a.short;
      }

-- ---- a line that is no call

none_answered : {b : Box} {line zs us : List ℕ} {at r : ℕ} → is_call line ≡ false → PutAt zs at no_call_line r us → LineAnswered b line zs at r us b.tables
unfolding line_answer box_after
none_answered q p =
    record { answer_is = rw q p; tables_are = rw q; short = omega (arith, p.next) }

pub returns-in-Some-clause-answered : goal.returns-in-Some-clause-answered
returns-in-Some-clause-answered c =
    call_answered _ _ refl c.in-Some.ensures.value c.in-Some.ensures.slice_after c.answer_call.ensures.answered

pub returns-in-None-clause-answered : goal.returns-in-None-clause-answered
returns-in-None-clause-answered c =
    none_answered (read_no_call _ (sym c.in-None.ensures.value.0)) c.put_no_call.ensures
