-- What holds of the position of a refused slice.
use Prim.Native.Nat.{ℕ, ◌≤◌}
use mathlib.Core.Path.{◌≡◌, refl, sym, ap, ◌∙◌}
use mathlib.Core.Bool.{Bool, true, false, cond}
use mathlib.Core.List.{List}
use native.Mathlib.Omega.{arith}
use borrow.Author.Tests.{eqb-true, lt-ltb, le-ltb, ne_eqb}
use lib.Dec.{eqb}
use Rattle.frame.specs.Frame.{Reading, read_frame, frame_position}
use Rattle.frame.proofs.Placed.{passed, frame_number, body_place, which_stray}
use Rattle.commands.specs.declared.request.Request.{Request}
use Rattle.commands.specs.Request.{parts_of}
use Rattle.numbers.proofs.Where.{false_true}
use Rattle.std.specs.Prelude.{Option, None, Some}
use Rattle.replies.specs.declared.reply.Outcome.{Outcome}
use Rattle.bodies.specs.Body.{Judged}
use Rattle.bodies.specs.Body as judged
use Rattle.bodies.specs.Body.{read_body}
use Rattle.bodies.specs.Position.{body_position}
use Rattle.reply_reader.specs.Reader.{read_outcome}
use Rattle.bodies.proofs.Position.{Numbered, body_number, body_pointed}
use Rattle.harl.specs.Message.{rule_for, judge_asked, RequestReading, no_request, from_station, read_request, ReplyReading, no_outcome, from_carried, read_reply}
use Rattle.harl.specs.Place.{tells, Told, FramesTold, RequestsTold, RepliesTold}

body_tells : (n : ℕ) → 9 ≤ n → n ≤ 12 → tells n ≡ true
body_tells n a b = rw (ne_eqb n 6 (λ e. omega arith), ne_eqb n 7 (λ e. omega arith), lt-ltb 8 n (omega arith), lt-ltb n 13 (omega arith))

module _ (s : List ℕ) where
  -- a number that tells nothing
  pub nothing_told : (n : ℕ) → tells n ≡ false → Told s n 0
  nothing_told n h = record {
    silent = λ e. refl;
    positive = λ e. false_true (sym h ∙ e);
    within = λ e. false_true (sym h ∙ e);
    stray = λ e. false_true (sym h ∙ ap tells e);
    station = λ e. false_true (sym h ∙ ap tells e);
    body = λ a b. false_true (sym h ∙ body_tells n a b);
    field = λ a b. false_true (sym h ∙ body_tells n a b);
  }

  stray_told : (read_frame s).number ≡ 6 → Told s 6 (frame_position s 6)
  unfolding frame_position
  stray_told e =
      let w = which_stray s e in
      record {
        silent = λ z. false_true (sym z);
        positive = λ z. omega arith;
        within = λ z. omega arith;
        stray = λ z. (w.0, w.1.1);
        station = λ z. absurd (omega arith);
        body = λ a b. absurd (omega arith);
        field = λ a b. absurd (omega arith);
      }

  station_told : (read_frame s).number ≡ 7 → Told s 7 1
  station_told e =
      let p = passed s 7 (λ k a b z. omega arith) e in
      record {
        silent = λ z. false_true (sym z);
        positive = λ z. omega arith;
        within = λ z. omega arith;
        stray = λ z. absurd (omega arith);
        station = λ z. refl;
        body = λ a b. absurd (omega arith);
        field = λ a b. absurd (omega arith);
      }

  body_told : (n : ℕ) → (read_frame s).number ≡ 0 → 9 ≤ n → n ≤ 12 → Told s n (body_position s n)
  body_told n e a b =
      let p = body_place s e in
      let q = body_pointed s n e in
      record {
        silent = λ z. false_true (sym z ∙ body_tells n a b);
        positive = λ z. omega arith;
        within = λ z. omega arith;
        stray = λ z. absurd (omega arith);
        station = λ z. absurd (omega arith);
        body = λ a b. q.0;
        field = λ a b. q.1.1;
      }

pub frames_told : FramesTold
unfolding frame_position
frames_told s = go (eqb (read_frame s).number 6) (eqb (read_frame s).number 7) refl refl
  where
    go : (t u : Bool) → eqb (read_frame s).number 6 ≡ t → eqb (read_frame s).number 7 ≡ u → Told s (read_frame s).number (frame_position s (read_frame s).number)
    go true u a b = let e : (read_frame s).number ≡ 6 = eqb-true _ 6 a in rw e (stray_told s e)
    go false true a b = let e : (read_frame s).number ≡ 7 = eqb-true _ 7 b in rw e (station_told s e)
    go false false a b = rw (a, b) (nothing_told s _ (rw (a, b, le-ltb 8 (read_frame s).number (omega (arith, frame_number s)))))

-- ---- a slice read as a request, or as a reply

module _ (s : List ℕ) where
  abbrev frame : Reading
  frame = read_frame s

  judged_told : (v : Judged) → frame.number ≡ 0 → Numbered v → Told s (from_station s frame.station v).number (from_station s frame.station v).position
  judged_told (judged.Accepted r) e h = nothing_told s 0 refl
  judged_told (judged.Refused n store) e h = body_told s n e h.0 h.1

  request_told :
      (t : Bool) →
      eqb frame.number 0 ≡ t →
      let o : RequestReading = cond t (from_station s frame.station (read_body frame.body)) (no_request frame.number (frame_position s frame.number)) in
      Told s o.number o.position
  request_told true e = judged_told (read_body frame.body) (eqb-true _ 0 e) (body_number frame.body)
  request_told false e = frames_told s

  reply_told :
      (t u : Bool) (c : Option Outcome) →
      let o : ReplyReading = cond t (cond u (from_carried c) (no_outcome 15 0)) (no_outcome frame.number (frame_position s frame.number)) in
      Told s o.number o.position
  reply_told true true (Some v) = nothing_told s 0 refl
  reply_told true true None = nothing_told s 15 refl
  reply_told true false c = nothing_told s 15 refl
  reply_told false u c = frames_told s

pub requests_told : RequestsTold
unfolding read_request
requests_told s = request_told s (eqb (read_frame s).number 0) refl

pub replies_told : (s : List ℕ) (station : ℕ) (r : Request) → RepliesTold s station r
unfolding read_reply
replies_told s station r = record {
  judged = λ e. rw e (reply_told s (eqb (read_frame s).number 0) (eqb (read_frame s).station station) (read_outcome (rule_for r) (parts_of r).number (read_frame s).body));
  refused = λ h. rw (ne_eqb (judge_asked station r) 0 h);
}
