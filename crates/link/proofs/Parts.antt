-- A line served part by part is served as if it had come whole.
use Prim.Native.Nat.{ℕ}
use mathlib.Core.Path.{◌≡◌, refl, ap}
use mathlib.Core.List.{List, [], ◌∷◌, ◌++◌, flatten}
use Rattle.receiver.specs.Rule.{slices_from, held_from}
use Rattle.receiver.proofs.Cut.{slices_cut}
use Rattle.model.specs.Box.{Box, run}
use Rattle.link.specs.Served.{replies, served_box, written, last_box, PartsServed}
use Rattle.link.proofs.Laws.{served_append, replies_append}

written_whole : (b : Box) (h : List ℕ) (ps : List (List ℕ)) → written b h ps ≡ replies b (slices_from h (flatten ps))
unfolding written replies slices_from flatten
written_whole b h [] = refl
written_whole b h (p ∷ ps) =
    let ss : List (List ℕ) = slices_from h p in
    rw (slices_cut h p (flatten ps), replies_append b ss) (ap (λ (l : List ℕ). replies b ss ++ l) (written_whole (served_box b ss) (held_from h p) ps))

last_whole : (b : Box) (h : List ℕ) (ps : List (List ℕ)) → last_box b h ps ≡ served_box b (slices_from h (flatten ps))
unfolding last_box run slices_from flatten
last_whole b h [] = refl
last_whole b h (p ∷ ps) =
    let ss : List (List ℕ) = slices_from h p in
    rw (slices_cut h p (flatten ps), served_append b ss) (last_whole (served_box b ss) (held_from h p) ps)

pub parts_served : PartsServed
parts_served b ps = (written_whole b [] ps, last_whole b [] ps)
