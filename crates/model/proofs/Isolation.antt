-- Over any list of calls each arm behaves as its lone box (demand 3), and the tables keep their shape.
use Prim.Native.Nat.{ℕ, ◌<◌}
use mathlib.Core.Path.{◌≡◌, refl, sym, ap, ap₂, ◌∙◌, subst}
use mathlib.Core.Bool.{Bool, true, false, cond}
use mathlib.Core.List.{List, [], ◌∷◌}
use lib.ListN.{length, get_or, get_or-replicate}
use Rattle.programs.specs.Memory.{size, part, program}
use Rattle.programs.proofs.Programs.{cleared_empty}
use Rattle.tables.specs.Tables.{Tables, with_programs, zeros}
use Rattle.model.specs.Call.{Call}
use Rattle.model.specs.Box.{Box, box, setup, Slot, nowhere, at, Decision, unanswered, refused, accepted, input_set, count_asked, decide_on, perform_tables, perform, respond, after, answer, run}
use Rattle.model.specs.Lone.{Arm, zero_arm, Event, step, run_lone, answers_lone}
use Rattle.model.specs.Addressed.{Fitted, is_for, event_of, events_for, answers_to, arm_of}
use Rattle.model.specs.Shaped.{AlwaysShaped}
use Rattle.model.specs.Counts.{AlwaysCounted}
use Rattle.model.specs.Demand3.{Isolated, Demand3}
use Rattle.model.proofs.Laws.{false_true}
use Rattle.model.proofs.Slots.{Apart, setup_apart, nowhere_at, concerns, concerned, decided}
use Rattle.model.specs.Ranges.{brings_byte}
use Rattle.model.proofs.Ranges.{sound}
use Rattle.model.proofs.Arms.{other, same}
use Rattle.model.proofs.Programs.{after_length, fitted_cleared, fitted_size, other_part}
use Rattle.model.proofs.Counts.{Tallied, after_tallied, setup_tallied, true_count}

-- ---- one call

pub after_stations : (b : Box) (c : Call) → (after b c).stations ≡ b.stations
unfolding after perform
after_stations b c = refl

module _ (b : Box) (k : ℕ) (c : Call) where
  after_other : is_for k b.stations c ≡ false → arm_of k (after b c) ≡ arm_of k b
  unfolding after
  after_other e = other b k (brings_byte c) (decide_on b c) (sound b.stations _ c) (λ w. false_true (sym e ∙ (concerned b.stations k _ c w).addressed))

  after_unfitted : get_or b.stations k 0 ≡ 0 → arm_of k (after b c) ≡ arm_of k b
  unfolding after
  after_unfitted z = other b k (brings_byte c) (decide_on b c) (sound b.stations _ c) (λ w. (concerned b.stations k _ c w).fitted.1 z)

  -- the same of the bytes of its part
  part_other : is_for k b.stations c ≡ false → part k (after b c).tables.programs ≡ part k b.tables.programs
  unfolding after
  part_other e = other_part b k (brings_byte c) (decide_on b c) (sound b.stations _ c) (λ w. false_true (sym e ∙ (concerned b.stations k _ c w).addressed))

  part_unfitted : get_or b.stations k 0 ≡ 0 → part k (after b c).tables.programs ≡ part k b.tables.programs
  unfolding after
  part_unfitted z = other_part b k (brings_byte c) (decide_on b c) (sound b.stations _ c) (λ w. (concerned b.stations k _ c w).fitted.1 z)

  pub after_same : length b.tables.programs ≡ size → Apart b.stations → Fitted k b.stations → Tallied b.tables → is_for k b.stations c ≡ true
      → (arm_of k (after b c) ≡ (step (get_or b.stations k 0) (arm_of k b) (event_of c)).arm)
      × (answer b c ≡ (step (get_or b.stations k 0) (arm_of k b) (event_of c)).answer)
  unfolding after answer
  after_same z g f h e =
      let w = same b k z h f.0 c in
      rw (decided b.stations _ k c z g f e) (w.arm, w.answer)

-- ---- a list of calls

record Follows (b : Box) (k : ℕ) (cs : List Call) (own : ℕ) (a : Arm) (es : List Event) : Type 0 where
  tables : arm_of k (run b cs) ≡ run_lone own a es
  answers : answers_to k b cs ≡ answers_lone own a es

follows : (b : Box) (k : ℕ) (cs : List Call) → length b.tables.programs ≡ size → Apart b.stations → Fitted k b.stations → Tallied b.tables
    → Follows b k cs (get_or b.stations k 0) (arm_of k b) (events_for k b.stations cs)
unfolding run run_lone answers_to answers_lone events_for
follows b k [] z g f h = record { tables = refl; answers = refl }
follows b k (c ∷ cs) z g f h =
    let kept = after_stations b c in
    go (is_for k b.stations c) refl
    (subst (λ (s : List ℕ). Follows (after b c) k cs (get_or s k 0) (arm_of k (after b c)) (events_for k s cs)) kept
    (follows (after b c) k cs (after_length b c ∙ z) (rw kept g) (rw kept f) (after_tallied b c h)))
  where
    own : ℕ
    own = get_or b.stations k 0

    es : List Event
    es = events_for k b.stations cs

    go : (t : Bool) → is_for k b.stations c ≡ t → Follows (after b c) k cs own (arm_of k (after b c)) es
        → Follows b k (c ∷ cs) own (arm_of k b) (cond t (event_of c ∷ es) es)
    go true e ih =
        let (p, q) = after_same b k c z g f h e in
        record {
          tables = ih.tables ∙ ap (λ a. run_lone own a es) p;
          answers = rw e (ap₂ (λ x r. x ∷ r) q (ih.answers ∙ ap (λ a. answers_lone own a es) p));
        }
    go false e ih =
        let p = after_other b k c e in
        record {
          tables = ih.tables ∙ ap (λ a. run_lone own a es) p;
          answers = rw e (ih.answers ∙ ap (λ a. answers_lone own a es) p);
        }

-- a slot that is found is fitted, so no call changes an unfitted one
run_unfitted : (k : ℕ) (cs : List Call) (b : Box) → get_or b.stations k 0 ≡ 0 → arm_of k (run b cs) ≡ arm_of k b
unfolding run
run_unfitted k [] b z = refl
run_unfitted k (c ∷ cs) b z = run_unfitted k cs (after b c) (rw (after_stations b c) z) ∙ after_unfitted b k c z

run_part : (k : ℕ) (cs : List Call) (b : Box) → get_or b.stations k 0 ≡ 0 → part k (run b cs).tables.programs ≡ part k b.tables.programs
unfolding run
run_part k [] b z = refl
run_part k (c ∷ cs) b z = run_part k cs (after b c) (rw (after_stations b c) z) ∙ part_unfitted b k c z

-- what every call keeps, a list keeps
run_keeps : (P : Box → Type 0) → ((b : Box) (c : Call) → P b → P (after b c)) → (cs : List Call) (b : Box) → P b → P (run b cs)
unfolding run
run_keeps P keeps [] b h = h
run_keeps P keeps (c ∷ cs) b h = run_keeps P keeps cs (after b c) (keeps b c h)

pub run_stations : (cs : List Call) (b : Box) → (run b cs).stations ≡ b.stations
run_stations cs b = run_keeps (λ d. d.stations ≡ b.stations) (λ d c e. after_stations d c ∙ e) cs b refl

-- ---- a call addressed to no arm

unconcerned : (t : Tables) (d : Decision) → concerns d ≡ nowhere → perform_tables t d ≡ t
unconcerned t (unanswered n p) e = refl
unconcerned t (refused k s n p q) e = refl
unconcerned t (accepted k s r) e = nowhere_at (sym e)
unconcerned t (input_set k p v) e = nowhere_at (sym e)
unconcerned t (count_asked k) e = refl

no_reply_lem : (b : Box) (d : Decision) → concerns d ≡ nowhere → (respond b d).reply ≡ []
unfolding respond
no_reply_lem b (unanswered n p) e = refl
no_reply_lem b (refused k s n p q) e = nowhere_at (sym e)
no_reply_lem b (accepted k s r) e = nowhere_at (sym e)
no_reply_lem b (input_set k p v) e = nowhere_at (sym e)
no_reply_lem b (count_asked k) e = nowhere_at (sym e)

unaddressed : (b : Box) (c : Call) → ((k : ℕ) → Fitted k b.stations → is_for k b.stations c ≡ false)
    → ((after b c).tables ≡ b.tables) × ((answer b c).reply ≡ [])
unfolding after answer perform
unaddressed b c n = go (concerns (decide_on b c)) refl
  where
    go : (s : Slot) → concerns (decide_on b c) ≡ s
        → (perform_tables b.tables (decide_on b c) ≡ b.tables) × ((respond b (decide_on b c)).reply ≡ [])
    go nowhere e = (unconcerned b.tables (decide_on b c) e, no_reply_lem b (decide_on b c) e)
    go (at k) e = let w = concerned b.stations k _ c e in false_true (sym (n k w.fitted) ∙ w.addressed)

-- ---- from setup

zero_arm_lem : (st m : List ℕ) (k : ℕ) → k < 4 → arm_of k (box st (zeros m)) ≡ with_programs zero_arm (program k m)
unfolding zeros zero_arm
zero_arm_lem st m k l = search get_or-replicate

setup_zero : (want m : List ℕ) (k : ℕ) → k < 4 → arm_of k (setup want m) ≡ with_programs zero_arm (program k (setup want m).tables.programs)
unfolding setup zeros
setup_zero want m k l = zero_arm_lem (setup want m).stations (setup want m).tables.programs k l

-- where an arm is fitted, no step was written
fitted_zero : (want m : List ℕ) (k : ℕ) → Fitted k (setup want m).stations → arm_of k (setup want m) ≡ zero_arm
unfolding zero_arm
fitted_zero want m k f =
    setup_zero want m k f.0 ∙ ap (with_programs zero_arm) (ap (program k) (fitted_cleared want m k f) ∙ cleared_empty size k)

isolated : (want m : List ℕ) (cs : List Call) (k : ℕ) → Fitted k (setup want m).stations → Isolated (setup want m) k cs
isolated want m cs k f =
    let w = follows (setup want m) k cs (fitted_size want m k f) (setup_apart want m) f (setup_tallied want m) in
    let e = fitted_zero want m k f in
    record { tables = rw (← e) w.tables; answers = rw (← e) w.answers }

pub demand3 : (want m : List ℕ) (cs : List Call) → Demand3 want m cs
demand3 want m cs =
    let e = run_stations cs (setup want m) in
    record {
      alone = isolated want m cs;
      unaddressed = λ c n. unaddressed (run (setup want m) cs) c (rw e n);
      others = λ c k l n. part_other (run (setup want m) cs) k c (rw e n);
      unfitted = λ k l z. run_unfitted k cs (setup want m) z ∙ setup_zero want m k l;
      part = λ k l z. run_part k cs (setup want m) z;
      stations = e;
    }

-- where an arm is fitted, the memory keeps its size
pub run_size : (want m : List ℕ) (cs : List Call) (k : ℕ) → Fitted k (setup want m).stations → length (run (setup want m) cs).tables.programs ≡ size
run_size want m cs k f =
    run_keeps (λ b. length b.tables.programs ≡ size) (λ b c e. after_length b c ∙ e) cs (setup want m) (fitted_size want m k f)

pub always_tallied : (want m : List ℕ) (cs : List Call) → Tallied (run (setup want m) cs).tables
always_tallied want m cs = run_keeps (λ b. Tallied b.tables) after_tallied cs (setup want m) (setup_tallied want m)

pub always_shaped : AlwaysShaped
always_shaped want m cs = (always_tallied want m cs).shaped

pub always_counted : AlwaysCounted
always_counted want m cs k l = true_count (run (setup want m) cs).tables k l (always_tallied want m cs)
