-- The body stands where its length puts it, before ETX.
use Prim.Native.Nat.{ℕ, ◌-◌}
use mathlib.Core.Path.{◌≡◌, sym, ap, ◌∙◌}
use mathlib.Core.List.{List}
use native.Mathlib.Omega.{arith}
use lib.ListN.{length, take, drop}
use lib.Seq.{length-take-le}
use Rattle.frame.specs.Fields.{placed}
use Rattle.frame.specs.Frame.{read_frame}
use Rattle.frame.proofs.Placed.{body_place}
use Rattle.bodies.specs.Body.{read_body}
use Rattle.bodies.specs.Position.{fields_position, body_position, judged_at}
use Rattle.bodies.proofs.body.read_body.Goals as goal

-- the part before ETX
before_etx : (s : List ℕ) → length (take (length s - 2) s) ≡ length s - 2
before_etx s = length-take-le (length s - 2) s (omega arith)

judged_is : (s : List ℕ) → (read_frame s).number ≡ 0 → {n : ℕ} → n ≡ length (read_frame s).body → judged_at (fields_position (length (take (length s - 2) s)) (placed (length s - 2 - n) (drop (length s - 2 - n) (take (length s - 2) s)))) (read_body (drop (length s - 2 - n) (take (length s - 2) s))) ≡ judged_at (body_position s) (read_body (read_frame s).body)
unfolding body_position
judged_is s e q =
    let p = body_place s e in
    rw (q, p.body_is, before_etx s) (ap (λ fs. judged_at (fields_position (length s - 2) fs) (read_body (read_frame s).body)) (sym p.fields_are))

pub overflow_sub-etx : goal.overflow_sub-etx
overflow_sub-etx c =
    let p = body_place _ c.requires.0 in omega (arith, p.low)

pub overflow_sub-from : goal.overflow_sub-from
overflow_sub-from c =
    let p = body_place _ c.requires.0 in
    omega (arith, p.room, ap length c.requires.1)

pub returns : goal.returns
returns c =
    c.read_fields.ensures ∙ judged_is c.args.slice.now c.requires.0 (ap length c.requires.1)
