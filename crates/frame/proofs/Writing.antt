-- Frames written: how long they are, and that an opening, a body and a closing, written one after the other, are a frame.
use Prim.Native.Nat.{ℕ, ◌+◌, ◌≤◌}
use mathlib.Core.Path.{◌≡◌, refl, sym, ap, ◌∙◌}
use mathlib.Core.List.{List, [], ◌∷◌, ◌++◌, append_assoc}
use native.Mathlib.Nat.{zero-add}
use native.Mathlib.Omega.{arith}
use lib.ListN.{length, take, drop, length-append}
use lib.Seq.{slice, sets, sets-eq, take_at, drop_at, length-take-le}
use Rattle.text.specs.Put.{Put, PutAt, xor_onto}
use Rattle.text.specs.Whole.{shortest}
use Rattle.text.specs.declared.put.Cursor.{Cursor}
use Rattle.text.proofs.Laws.{xor_append, put_at, put_at_then}
use Rattle.frame.specs.Checksum.{lrc_of}
use Rattle.frame.specs.Frame.{opening, closing, frame_of}

-- ---- lengths

pub opening_length : (st : ℕ) → length (opening st) ≡ length (shortest st) + 2
unfolding opening
opening_length st = simp length-append (omega arith)

pub closing_length : (t : List ℕ) → length (closing t) ≡ 2
unfolding closing
closing_length t = refl

pub frame_length : (st : ℕ) (body : List ℕ) → length (frame_of st body) ≡ length (shortest st) + length body + 4
unfolding frame_of
frame_length st body = simp (length-append, opening_length, closing_length) (omega arith)

-- ---- what was written is read back

pub written : (xs : List ℕ) (at : ℕ) (vs : List ℕ) → at + length vs ≤ length xs → slice at (at + length vs) (sets xs at vs) ≡ vs
written xs at vs h =
    let p : length (take at xs) ≡ at = length-take-le at xs (omega arith) in
    let q : length (take at xs ++ vs) ≡ at + length vs = omega (arith, length-append (take at xs) vs) in
    rw (sets-eq vs xs at h, take_at (take at xs ++ vs) (drop (at + length vs) xs) (at + length vs) q) (drop_at (take at xs) vs at p)

-- at the front of an area they are its first bytes
pub front_is : (xs vs : List ℕ) → length vs ≤ length xs → take (length vs) (sets xs 0 vs) ≡ vs
front_is xs vs h = rw zero-add at (written xs 0 vs (omega arith))

-- ---- an opening, a body and its closing, written one after the other, are a frame

-- the sum of the body, taken into that of the station and SP
inner_sum : (st : ℕ) (body : List ℕ) → xor_onto (lrc_of (shortest st ++ (32 ∷ []))) body ≡ lrc_of (shortest st ++ (32 ∷ body))
unfolding lrc_of
inner_sum st body = sym (xor_append 0 (shortest st ++ (32 ∷ [])) body) ∙ ap (xor_onto 0) (append_assoc (shortest st) (32 ∷ []) body)

pub framed : (st : ℕ) {body xs ys zs us : List ℕ} {a e : Cursor} {r : ℕ} → PutAt xs 0 (opening st) a.at ys × (a.sum ≡ lrc_of (shortest st ++ (32 ∷ []))) → Put ys a body e zs → ((t : List ℕ) → e.sum ≡ lrc_of t → PutAt zs e.at (closing t) r us) → PutAt xs 0 (frame_of st body) r us
unfolding frame_of
framed st {body} p q c =
    let t : List ℕ = shortest st ++ (32 ∷ body) in
    put_at_then p.0 (put_at_then (put_at q) (c t (q.sum ∙ rw p.1 (inner_sum st body))))
