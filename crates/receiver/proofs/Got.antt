-- What a call with room for a slice comes to, for its caller: the bytes taken, the slice in the area, and the bytes held.
use Prim.Native.Nat.{ℕ, ◌≤◌, ◌<◌}
use mathlib.Core.Path.{◌≡◌, sym, ◌∙◌}
use mathlib.Core.List.{List, [], ◌∷◌}
use borrow.Author.Tests.{eq-eqb, ne_eqb}
use lib.ListN.{length, take}
use lib.Seq.{length-sets}
use Rattle.frame.proofs.Writing.{front_is}
use Rattle.receiver.specs.declared.receive.Reception.{Reception}
use Rattle.receiver.specs.Rule.{slices_from, held_from}
use Rattle.receiver.specs.Receive.{Taken, held_in, took, received, Received}
use Rattle.receiver.proofs.Steps.{with_room}
use Rattle.receiver.proofs.Cut.{Takes, takes}

-- ys is the area after, of which the first bytes are the slice of the bytes taken, and h' is held then
pub record Got (h arrived : List ℕ) (got : Reception) (ys h' : List ℕ) : Type 0 where
  pub within : got.taken ≤ length arrived
  pub some : 0 < length arrived → 0 < got.taken
  pub fits : got.length ≤ length ys
  pub no_slice : got.length ≡ 0 → slices_from h (take got.taken arrived) ≡ []
  pub slice : (got.length ≡ 0 → ⊥) → slices_from h (take got.taken arrived) ≡ take got.length ys ∷ []
  pub held_is : h' ≡ held_from h (take got.taken arrived)

took_is : {h arrived xs m' ys : List ℕ} {n' : ℕ} {t : Taken} {got : Reception} → Takes t h arrived → Received (took t) xs got m' n' ys → Got h arrived got ys (held_in m' n')
took_is {xs = xs} {t = t} k r =
    record {
      within = rw r.taken_is k.within;
      some = rw r.taken_is k.some;
      fits = rw (r.area_is, r.length_is, length-sets xs 0 t.slice) r.fits;
      no_slice = λ e. rw (r.taken_is, ← k.slice_is, eq-eqb (length t.slice) 0 (sym r.length_is ∙ e));
      slice = λ n. rw (r.taken_is, ← k.slice_is, ne_eqb (length t.slice) 0 (λ e. n (r.length_is ∙ e)), r.area_is, r.length_is, front_is xs t.slice r.fits);
      held_is = r.held_is ∙ rw r.taken_is k.held_is;
    }

pub got_is : (m : List ℕ) (n : ℕ) (arrived xs : List ℕ) {m' ys : List ℕ} {n' : ℕ} {got : Reception} → 255 ≤ length xs → Received (received m n arrived (length xs)) xs got m' n' ys → Got (held_in m n) arrived got ys (held_in m' n')
got_is m n arrived xs l r = took_is (takes m (held_in m n) arrived) (rw (with_room m n arrived xs l) at r)
