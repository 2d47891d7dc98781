-- A history of calls is a run of the model, so demand 3 holds of what a program saw.
use Prim.Native.Nat.{ℕ, ◌+◌}
use mathlib.Core.Path.{◌≡◌, refl, sym, ap, ap₂, ◌∙◌}
use mathlib.Core.Bool.{cond}
use mathlib.Core.List.{List, [], ◌∷◌, map}
use native.Mathlib.Omega.{arith}
use lib.Dec.{ltb}
use lib.ListN.{length, take}
use Rattle.frame.proofs.Writing.{written}
use Rattle.model.specs.Call.{Call, serve, input, outputs_on, Answer, no_reply}
use Rattle.model.specs.Box.{Box, box, Decision, setup, is_fitted, decide, perform_tables, perform, respond, after, answer, run}
use Rattle.model.specs.Addressed.{is_for, answers_to, arm_of}
use Rattle.model.specs.Demand3.{Isolated}
use Rattle.model.proofs.Laws.{cond_has}
use Rattle.model.proofs.Isolation.{demand3}
use Rattle.slots.specs.Entries.{as_count}
use Rattle.gateway.specs.History.{Made, served, input_made, count_made, call_of, seen, tables_after, Promised, History, last, seen_by, CodeIsolated}

-- ---- one call

made_box : (b : Box) (m : Made) → Promised b m → box b.stations (tables_after b m) ≡ after b (call_of m)
unfolding after decide perform
made_box b (served slice before sent t later) p = ap (box b.stations) p.tables_are
made_box b (input_made k port byte n t) p = ap (box b.stations) p.tables_are
made_box b (count_made k r) p = ap (box b.stations) (cond_has (λ d. b.tables ≡ perform_tables b.tables d) (is_fitted b.stations k) refl refl)

-- an input call gets its number alone
input_none : (b : Box) (k port byte : ℕ) → answer b (input k port byte) ≡ no_reply (answer b (input k port byte)).number 0
unfolding answer decide respond
input_none b k port byte =
    let P : Decision → Type 0 = λ d. respond b d ≡ no_reply (respond b d).number 0 in
    cond_has P (is_fitted b.stations k) (cond_has P (ltb 31 port) refl refl) refl

-- what is told of outputs that are on
count_told : (b : Box) (k : ℕ) → seen (count_made k (as_count (answer b (outputs_on k)))) ≡ answer b (outputs_on k)
unfolding answer decide respond
count_told b k = cond_has (λ d. seen (count_made k (as_count (respond b d))) ≡ respond b d) (is_fitted b.stations k) refl refl

made_answer : (b : Box) (m : Made) → Promised b m → seen m ≡ answer b (call_of m)
made_answer b (served slice before sent t later) p =
    let a : Answer = answer b (serve slice (length before)) in
    let w = p.answer_is in
    let end : sent.length ≡ 0 + length a.reply = omega (arith, w.length_is) in
    let bytes : take sent.length later ≡ a.reply = rw (end, w.area) (written before 0 a.reply (omega (arith, w.fits))) in
    rw (w.number, w.position) (ap (λ r. record { number = a.number; position = a.position; reply = r }) bytes)
made_answer b (input_made k port byte n t) p = rw p.number_is (sym (input_none b k port byte))
made_answer b (count_made k r) p = rw (p b.tables) (count_told b k)

-- ---- all of them

history_run : (ms : List Made) (b : Box) → History b ms → last b ms ≡ run b (map call_of ms)
unfolding History last run
history_run [] b h = refl
history_run (m ∷ ms) b h =
    history_run ms (box b.stations (tables_after b m)) h.1 ∙ ap (λ d. run d (map call_of ms)) (made_box b m h.0)

history_answers : (k : ℕ) (ms : List Made) (b : Box) → History b ms → seen_by k b.stations ms ≡ answers_to k b (map call_of ms)
unfolding History seen_by answers_to
history_answers k [] b h = refl
history_answers k (m ∷ ms) b h =
    ap₂ (λ x r. cond (is_for k b.stations (call_of m)) (x ∷ r) r) (made_answer b m h.0)
    (history_answers k ms (box b.stations (tables_after b m)) h.1 ∙ ap (λ d. answers_to k d (map call_of ms)) (made_box b m h.0))

pub code_isolated : CodeIsolated
code_isolated want m number st turn t ms s h k f =
    let e : box st t ≡ setup want m = ap₂ box s.stations_are s.tables_are in
    let cs : List Call = map call_of ms in
    let i : Isolated (box st t) k cs = rw e ((demand3 want m cs).alone k (rw (← s.stations_are) f)) in
    record {
      tables = ap (arm_of k) (history_run ms (box st t) h) ∙ i.tables;
      answers = history_answers k ms (box st t) h ∙ i.answers;
    }
