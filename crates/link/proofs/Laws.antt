-- Laws of slices served one after the other, of a line served part by part, and of the memory that a slice and its reply
-- stand in.
use Prim.Native.Nat.{ℕ, ◌+◌, ◌-◌, ◌≤◌}
use mathlib.Core.Path.{◌≡◌, refl, sym, ap, ◌∙◌}
use mathlib.Core.List.{List, [], ◌∷◌, ◌++◌, map, append_assoc, append-nil}
use native.Mathlib.Nat.{zero-add}
use native.Mathlib.Omega.{arith}
use lib.ListN.{length, take, drop, take-append-drop, length-drop}
use lib.Seq.{sets, sets-eq, length-sets, drop-append-le, drop-drop, length-take-le}
use Rattle.text.proofs.Laws.{put_at_none, put_at_then}
use Rattle.receiver.specs.Rule.{slices_from, held_from}
use Rattle.receiver.proofs.Cut.{held_cut, slices_cut}
use Rattle.harl.specs.declared.message.Sent.{Sent}
use Rattle.tables.specs.Tables.{Tables}
use Rattle.model.specs.Box.{Box, box, after, answer, run}
use Rattle.model.proofs.Isolation.{run_stations}
use Rattle.gateway.specs.Entries.{Served}
use Rattle.gateway.proofs.Replies.{served_fits}
use Rattle.link.specs.Served.{slice_call, replies, served_box, LineServed}

-- ---- slices one after the other

pub served_append : (b : Box) (ss us : List (List ℕ)) → served_box b (ss ++ us) ≡ served_box (served_box b ss) us
unfolding run
served_append b [] us = refl
served_append b (s ∷ ss) us = served_append (after b (slice_call s)) ss us

pub replies_append : (b : Box) (ss us : List (List ℕ)) → replies b (ss ++ us) ≡ replies b ss ++ replies (served_box b ss) us
unfolding replies run
replies_append b [] us = refl
replies_append b (s ∷ ss) us =
    ap (λ (l : List ℕ). (answer b (slice_call s)).reply ++ l) (replies_append (after b (slice_call s)) ss us)
    ∙ sym (append_assoc (answer b (slice_call s)).reply (replies (after b (slice_call s)) ss) _)

-- they leave the stations as they were
box_is : (b : Box) (ss : List (List ℕ)) {t : Tables} → t ≡ (served_box b ss).tables → box b.stations t ≡ served_box b ss
box_is b ss e = rw e (ap (λ (st : List ℕ). box st (served_box b ss).tables) (sym (run_stations (map slice_call ss) b)))

-- ---- a line served

-- bytes that finish no slice
pub none_served : {b : Box} {h bytes xs h' : List ℕ} {at : ℕ} → slices_from h bytes ≡ [] → h' ≡ held_from h bytes → LineServed b h bytes xs at at xs b.tables h'
unfolding replies run
none_served {xs = xs} {at = at} e k =
    record { replies_are = rw e (put_at_none xs at); tables_are = rw e; held_is = k }

-- one part after another
pub served_then : {b : Box} {h us xs ys h' vs zs h'' : List ℕ} {at p q : ℕ} {t t'' : Tables} → LineServed b h us xs at p ys t h' → LineServed (box b.stations t) h' vs ys p q zs t'' h'' → LineServed b h (us ++ vs) xs at q zs t'' h''
served_then {b} {h} {us} {vs = vs} k l =
    let ss : List (List ℕ) = slices_from h us in
    let e = box_is b ss k.tables_are in
    record {
      replies_are = rw (slices_cut h us vs, replies_append b ss, ← k.held_is, ← e) (put_at_then k.replies_are l.replies_are);
      tables_are = rw (slices_cut h us vs, served_append b ss, ← k.held_is, ← e) l.tables_are;
      held_is = rw (held_cut h us vs, ← k.held_is) l.held_is;
    }

-- the area for replies is as long as it was
pub area_length : {b : Box} {h us xs ys h' : List ℕ} {at p : ℕ} {t : Tables} → LineServed b h us xs at p ys t h' → length ys ≡ length xs
area_length {b} {h} {us} {xs} {at = at} k = ap length k.replies_are.area ∙ length-sets xs at (replies b (slices_from h us))

-- ---- a slice and its reply in memory

-- bytes written at the front of a part of n bytes that was lent are written where the part starts
part_back : (xs vs : List ℕ) (at n : ℕ) → length vs ≤ n → at + n ≤ length xs → take at xs ++ (sets (take n (drop at xs)) 0 vs ++ drop n (drop at xs)) ≡ sets xs at vs
part_back xs vs at n h k =
    let p : List ℕ = take n (drop at xs) in
    let q : length p ≡ n = length-take-le n (drop at xs) (omega (arith, length-drop at xs)) in
    let f : length vs ≤ length p = omega arith in
    rw (sets-eq vs p 0 (omega arith), sets-eq vs xs at (omega arith), zero-add (length vs), append_assoc vs, ← drop-append-le (length vs) p (drop n (drop at xs)) f, take-append-drop n (drop at xs), drop-drop (length vs) at xs, append_assoc (take at xs))

-- the 64 bytes from `at` on, as a part that was lent
part_length : (xs : List ℕ) (at : ℕ) → at + 64 ≤ length xs → length (take (at + 64 - at) (drop at xs)) ≡ 64
part_length xs at h =
    let n : at + 64 - at ≡ 64 = omega arith in
    rw n (length-take-le 64 (drop at xs) (omega (arith, length-drop at xs)))

-- a slice was served with them for its reply
module _ (xs : List ℕ) (at : ℕ) {b : Box} {s later : List ℕ} {sent : Sent} {t : Tables} (room : at + 64 ≤ length xs) (v : Served b s (take (at + 64 - at) (drop at xs)) sent t later) where
  pub reply_short : sent.length ≤ 64
  reply_short = omega (arith, served_fits v, part_length xs at room)

  pub one_served : {h bytes h' : List ℕ} → slices_from h bytes ≡ s ∷ [] → h' ≡ held_from h bytes → LineServed b h bytes xs at (at + sent.length) (take at xs ++ (later ++ drop (at + 64 - at) (drop at xs))) t h'
  unfolding replies run
  one_served e k =
      let l = part_length xs at room in
      let u : List ℕ = (answer b (slice_call s)).reply in
      let f : length u ≤ at + 64 - at = omega (arith, rw l at v.answer_is.fits) in
      record {
        replies_are = rw (e, append-nil u) (record {
          next = ap (λ (n : ℕ). at + n) (rw l at v.answer_is.length_is);
          area = rw (v.answer_is.area, l) (part_back xs u at (at + 64 - at) f (omega arith));
        });
        tables_are = rw (e, ← l) v.tables_are;
        held_is = k;
      }
