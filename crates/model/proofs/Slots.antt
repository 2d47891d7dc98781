-- The slot that a call concerns. Setup leaves no nonzero station twice, so the slot that `decide` finds is the
-- one that the call is addressed to, by `is_for`.
use Prim.Native.Nat.{ℕ, zero, suc, ◌+◌, ◌<◌, ◌≤◌}
use mathlib.Core.Path.{◌≡◌, refl, sym, ap, ◌∙◌}
use mathlib.Core.Bool.{Bool, true, false, cond, not, ◌&&◌}
use mathlib.Core.List.{List}
use native.Mathlib.Omega.{arith}
use native.Mathlib.Decide.{ℕ_discrete}
use borrow.Author.Tests.{ltb-false, leb-true, eqb-true, eqb-false, not-true, le-ltb, le-leb, eq-eqb, ne_eqb}
use lib.ListN.{get_or, replicate, get_or-replicate}
use lib.Dec.{ltb, leb, eqb}
use Rattle.frame.specs.Frame.{Reading, read_frame}
use Rattle.bodies.specs.Body.{Judged}
use Rattle.bodies.specs.Body as judged
use Rattle.bodies.specs.Body.{read_body}
use Rattle.numbers.proofs.Bounds.{and_left, and_right}
use Rattle.model.specs.Call.{Call, serve, input, outputs_on}
use Rattle.programs.specs.Memory.{size}
use Rattle.model.specs.Setup.{setup_refusal}
use Rattle.model.specs.Box.{setup, Slot, nowhere, at, scan, slot_of, Decision, unanswered, refused, accepted, input_set, count_asked, decide_body, decide_slot, decide_frame, is_fitted, decide_fitted, has_room, decide}
use Rattle.model.specs.Addressed.{Fitted, is_for}
use Rattle.model.proofs.Laws.{false_true}
use Rattle.model.proofs.Setups.{setup_judged, accepted_number}

-- ---- no nonzero station stands twice

abbrev pub Apart : List ℕ → Type 0
Apart st = (a b : ℕ) → a < b → b < 4 → get_or st a 0 ≡ get_or st b 0 → (get_or st a 0 ≡ 0 → ⊥) → ⊥

pub setup_apart : (want m : List ℕ) → Apart (setup want m).stations
unfolding setup
setup_apart want m = go (eqb (setup_refusal want m) 0) refl
  where
    go : (t : Bool) → eqb (setup_refusal want m) 0 ≡ t → Apart (cond t want (replicate 4 0))
    go true e a b l h q f =
        let n = setup_judged.twice want (record { slot = a; later = b; order = l; nonzero = f; equal = sym q }) in
        omega (arith, accepted_number want m (eqb-true (setup_refusal want m) 0 e))
    go false e a b l h q f = f (get_or-replicate 4 a 0 0 (omega arith))

-- ---- the slot of a station

pub nowhere_at : {A : Type 0} {k : ℕ} → nowhere ≡ at k → A
nowhere_at e = let z : ◌≡◌ {A = ℕ} 0 1 = cc in absurd (omega arith)

module _ (st : List ℕ) (s : ℕ) where
  -- the first slot that has it is found
  scan_is : (m i k : ℕ) → i ≤ k → k < i + m → get_or st k 0 ≡ s → ((j : ℕ) → j < k → get_or st j 0 ≡ s → ⊥) → scan st s m i ≡ at k
  unfolding scan
  scan_is zero i k l h q n = absurd (omega arith)
  scan_is (suc m) i k l h q n = go (ℕ_discrete i k) (λ l'. scan_is m (suc i) k l' (omega arith) q n)
    where
      go : Dec (i ≡ k) → (i < k → scan st s m (suc i) ≡ at k) → cond (eqb (get_or st i 0) s) (at i) (scan st s m (suc i)) ≡ at k
      go (yes e) ih = rw (e, eq-eqb (get_or st k 0) s q)
      go (no e) ih =
          let l' : i < k = omega arith in
          rw (ne_eqb (get_or st i 0) s (n i l')) (ih l')

  -- what is found has it
  scan_at : (m i k : ℕ) → scan st s m i ≡ at k → (k < i + m) × (get_or st k 0 ≡ s)
  unfolding scan
  scan_at zero i k e = nowhere_at e
  scan_at (suc m) i k e = go (eqb (get_or st i 0) s) refl e (scan_at m (suc i) k)
    where
      go : (t : Bool) → eqb (get_or st i 0) s ≡ t → cond t (at i) (scan st s m (suc i)) ≡ at k
          → (scan st s m (suc i) ≡ at k → (k < suc i + m) × (get_or st k 0 ≡ s)) → (k < i + suc m) × (get_or st k 0 ≡ s)
      go true et e' ih = let z : k ≡ i = cc in rw z (omega arith, eqb-true _ s et)
      go false et e' ih = let (l, q) = ih e' in (omega arith, q)

pub slot_at : (st : List ℕ) (s k : ℕ) → slot_of st s ≡ at k → Fitted k st × (get_or st k 0 ≡ s)
unfolding slot_of
slot_at st s k e = go (eqb s 0) refl e
  where
    go : (t : Bool) → eqb s 0 ≡ t → cond t nowhere (scan st s 4 0) ≡ at k → Fitted k st × (get_or st k 0 ≡ s)
    go true et e' = nowhere_at e'
    go false et e' = let (l, q) = scan_at st s 4 0 k e' in ((omega arith, λ z. eqb-false s 0 et (sym q ∙ z)), q)

slot_own : (st : List ℕ) (k : ℕ) → Apart st → Fitted k st → slot_of st (get_or st k 0) ≡ at k
unfolding slot_of
slot_own st k g f =
    rw (ne_eqb (get_or st k 0) 0 f.1)
    (scan_is st (get_or st k 0) 4 0 k (omega arith) (omega arith) refl (λ j l q. g j k l f.0 q (λ z. f.1 (sym q ∙ z))))

-- ---- the slot that a decision concerns is fitted, and the call is addressed to its arm

abbrev pub concerns : Decision → Slot
concerns (unanswered n p) = nowhere
concerns (refused k s n p q) = at k
concerns (accepted k s r) = at k
concerns (input_set k p v) = at k
concerns (count_asked k) = at k

pub body_concerns : (slice : List ℕ) (k s : ℕ) (j : Judged) → concerns (decide_body slice k s j) ≡ at k
body_concerns slice k s (judged.Accepted r) = refl
body_concerns slice k s (judged.Refused n q) = refl

pub record For (k : ℕ) (st : List ℕ) (t : Bool) : Type 0 where
  pub fitted : Fitted k st
  pub addressed : t ≡ true

pub fitted_is : (st : List ℕ) (k : ℕ) → is_fitted st k ≡ true → Fitted k st
unfolding is_fitted
fitted_is st k e = go (ltb 3 k) refl e
  where
    go : (t : Bool) → ltb 3 k ≡ t → cond t false (not (eqb (get_or st k 0) 0)) ≡ true → Fitted k st
    go true et h = false_true h
    go false et h = let l = ltb-false 3 k et in (omega arith, eqb-false _ 0 (not-true (eqb (get_or st k 0) 0) h))

-- check 1, both ways
pub room_is : (lent room : ℕ) → has_room lent room ≡ true → (64 ≤ room) × (lent ≡ size)
unfolding has_room
room_is lent room e = go (ltb room 64) refl e
  where
    go : (t : Bool) → ltb room 64 ≡ t → cond t false (eqb lent size) ≡ true → (64 ≤ room) × (lent ≡ size)
    go true et h = false_true h
    go false et h = (ltb-false room 64 et, eqb-true lent size h)

pub is_room : (lent room : ℕ) → 64 ≤ room → lent ≡ size → has_room lent room ≡ true
unfolding has_room
is_room lent room h e = rw (le-ltb room 64 h) (eq-eqb lent size e)

module _ (st : List ℕ) (k : ℕ) where
  frame_for : (slice : List ℕ) (o : Reading) → concerns (decide_frame slice st o) ≡ at k → For k st (eqb o.number 0 && eqb o.station (get_or st k 0))
  frame_for slice o e = go (eqb o.number 0) (slot_of st o.station) _ _ refl e
    where
      go : (t : Bool) (f : Slot) (n p : ℕ) → slot_of st o.station ≡ f
          → concerns (cond t (decide_slot slice o.station o.body f) (unanswered n p)) ≡ at k
          → For k st (t && eqb o.station (get_or st k 0))
      go false f n p ef e' = nowhere_at e'
      go true nowhere n p ef e' = nowhere_at e'
      go true (at j) n p ef e' =
          let q : j ≡ k = cc (body_concerns slice j o.station (read_body o.body)) in
          let (f, w) = slot_at st o.station k (ef ∙ ap at q) in
          record { fitted = f; addressed = eq-eqb o.station _ (sym w) }

  -- what concerns slot k, where a slot is tested first
  fitted_concerns : (j : ℕ) (d : Decision) → concerns (decide_fitted st j d) ≡ at k → (is_fitted st j ≡ true) × (concerns d ≡ at k)
  fitted_concerns j d e = go (is_fitted st j) refl e
    where
      go : (t : Bool) → is_fitted st j ≡ t → concerns (cond t d (unanswered 14 0)) ≡ at k → (is_fitted st j ≡ true) × (concerns d ≡ at k)
      go true et e' = (et, e')
      go false et e' = nowhere_at e'

  -- a call that names slot k, which is fitted, is addressed to its arm, where x holds
  slot_for : (j : ℕ) (x : Bool) → is_fitted st j ≡ true → j ≡ k → x ≡ true → For k st (leb j 3 && (not (eqb (get_or st j 0) 0) && x))
  slot_for j x h q e =
      let f = fitted_is st j h in
      record { fitted = rw (← q) f; addressed = rw (le-leb j 3 (omega (arith, f.0)), ne_eqb _ 0 f.1, e) }

  pub concerned : (lent : ℕ) (c : Call) → concerns (decide st lent c) ≡ at k → For k st (is_for k st c)
  unfolding decide is_for
  concerned lent (serve slice room) e = go (has_room lent room) refl e
    where
      go : (t : Bool) → has_room lent room ≡ t → concerns (cond t (decide_frame slice st (read_frame slice)) (unanswered 1 0)) ≡ at k
          → For k st (leb 64 room && (eqb (read_frame slice).number 0 && eqb (read_frame slice).station (get_or st k 0)))
      go true et e' = rw (le-leb 64 room (room_is lent room et).0) (frame_for slice (read_frame slice) e')
      go false et e' = nowhere_at e'
  concerned lent (input j p v) e = let (h, q) = fitted_concerns j _ e in go h (ltb 31 p) refl q
    where
      go : is_fitted st j ≡ true → (t : Bool) → ltb 31 p ≡ t → concerns (cond t (unanswered 14 0) (input_set j p v)) ≡ at k
          → For k st (leb j 3 && (not (eqb (get_or st j 0) 0) && (leb p 31 && eqb j k)))
      go h true et q = nowhere_at q
      go h false et q = let w : j ≡ k = cc in slot_for j _ h w (rw (le-leb p 31 (ltb-false 31 p et)) (eq-eqb j k w))
  concerned lent (outputs_on j) e = let (h, q) = fitted_concerns j _ e in let w : j ≡ k = cc in slot_for j _ h w (eq-eqb j k w)

-- ---- what is decided of a call that is addressed to slot k's arm

abbrev pub heard : ℕ → List ℕ → Call → Decision
heard k st (serve slice room) = decide_body slice k (get_or st k 0) (read_body (read_frame slice).body)
heard k st (input j p v) = input_set k p v
heard k st (outputs_on j) = count_asked k

-- the same the other way round
fitted_decided : (st : List ℕ) (j : ℕ) (x : Bool) (d : Decision) → leb j 3 && (not (eqb (get_or st j 0) 0) && x) ≡ true → (decide_fitted st j d ≡ d) × (x ≡ true)
unfolding is_fitted
fitted_decided st j x d e =
    let n : Bool = not (eqb (get_or st j 0) 0) in
    let t = and_right (leb j 3) _ e in
    (rw (le-ltb 3 j (leb-true j 3 (and_left (leb j 3) _ e)), not-true (eqb (get_or st j 0) 0) (and_left n x t)), and_right n x t)

pub decided : (st : List ℕ) (lent k : ℕ) (c : Call) → lent ≡ size → Apart st → Fitted k st → is_for k st c ≡ true → decide st lent c ≡ heard k st c
unfolding decide is_for
decided st lent k (serve slice room) z g f e =
    let o = read_frame slice in
    let t = and_right (leb 64 room) _ e in
    rw (
      is_room lent room (leb-true 64 room (and_left (leb 64 room) _ e)) z,
      and_left (eqb o.number 0) _ t,
      eqb-true o.station (get_or st k 0) (and_right (eqb o.number 0) _ t),
      slot_own st k g f,
    )
decided st lent k (input j p v) z g f e =
    let (w, u) = fitted_decided st j (leb p 31 && eqb j k) (cond (ltb 31 p) (unanswered 14 0) (input_set j p v)) e in
    w ∙ rw (le-ltb 31 p (leb-true p 31 (and_left (leb p 31) _ u)), eqb-true j k (and_right (leb p 31) _ u))
decided st lent k (outputs_on j) z g f e =
    let (w, u) = fitted_decided st j (eqb j k) (count_asked j) e in
    w ∙ rw (eqb-true j k u)
