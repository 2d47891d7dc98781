use Prim.Native.Nat.{ℕ}
use mathlib.Core.Path.{◌≡◌, ap, subst, sym, ◌∙◌}
use mathlib.Core.List.{List, [], ◌∷◌, ◌++◌}
use Rattle.text.specs.Put.{Put, PutAt, xor_onto}
use Rattle.text.specs.declared.put.Cursor.{Cursor}
use Rattle.text.proofs.Laws.{xor_append, put_at, put_then}
use Rattle.frame.specs.Checksum.{lrc_of}
use Rattle.frame.specs.Frame.{closing}
use Rattle.frame.proofs.writer.close_frame.Goals as goal

-- ETX, and then the sum with ETX, are a closing
closed : {xs ys zs : List ℕ} {end last past : Cursor} → Put xs end (3 ∷ []) last ys → Put ys last (last.sum ∷ []) past zs → (t : List ℕ) → end.sum ≡ lrc_of t → PutAt xs end.at (closing t) past.at zs
unfolding closing lrc_of
closed {xs} {ys} {zs} {end} {last} {past} p q t e =
    let s : last.sum ≡ xor_onto 0 (t ++ (3 ∷ [])) = p.sum ∙ ap (λ (b : ℕ). xor_onto b (3 ∷ [])) e ∙ sym (xor_append 0 t (3 ∷ [])) in
    put_at (put_then p (subst (λ (b : ℕ). Put ys last (b ∷ []) past zs) s q))

pub returns : goal.returns
returns c =
    closed c.put_byte-last.ensures c.put_byte.ensures
