-- The invariant: the texts that are left, written at `at` of the memory as it is now, give what all of them give.
use Prim.Native.Nat.{ℕ, ◌+◌, ◌*◌}
use mathlib.Core.Path.{◌≡◌}
use mathlib.Core.List.{List, [], ◌∷◌, ◌++◌}
use lib.ListN.{drop}
use lib.Seq.{sets}
use Rattle.steps.specs.declared.texts.Text.{Text}
use Rattle.programs.specs.Memory.{place, bytes_of}
use Rattle.programs.proofs.memory.Programs.store.Given as goal

-- the bytes of texts
abbrev pub texts_bytes : List Text → List ℕ
texts_bytes [] = []
texts_bytes (t ∷ ts) = bytes_of t.0 ++ texts_bytes ts

-- i of these texts are written from p of m on
pub record Begun (m : List ℕ) (p : ℕ) (ts : List Text) (i : ℕ) (now : List ℕ) (at : ℕ) : Type 0 where
  pub next : at ≡ p + 8 * i
  pub bytes : sets now at (texts_bytes (drop i ts)) ≡ sets m p (texts_bytes ts)

abbrev pub invariant-loop-text : goal.invariant-loop-text
invariant-loop-text l =
    Begun l.initial.self.bytes.now (place l.fn.slot.index l.n) l.text-items l.text-index l.self.bytes.now l.at
    × (l.self.bytes.ghost_name ≡ l.initial.self.bytes.ghost_name)
