use Prim.Native.Nat.{ℕ, ◌≤◌}
use mathlib.Core.Path.{◌≡◌, sym, ap, ◌∙◌, refl}
use mathlib.Core.Bool.{Bool}
use mathlib.Core.List.{List}
use native.Mathlib.Omega.{arith}
use lib.ListN.{length}
use Rattle.text.specs.Put.{PutAt}
use Rattle.frame.specs.Frame.{read_frame, frame_of}
use Rattle.commands.specs.declared.request.Request.{Request}
use Rattle.replies.specs.declared.reply.Outcome.{Outcome}
use Rattle.bodies.specs.Body.{Judged, Accepted, Refused, read_body}
use Rattle.bodies.specs.Position.{body_position, judged_at, refused_at}
use Rattle.replies.specs.Reply.{number_in, performed_text, refusal_text}
use Rattle.harl.specs.Message.{Wrote}
use Rattle.tables.specs.Tables.{Tables, Performed}
use Rattle.model.specs.Box.{respond}
use Rattle.gateway.specs.Serving.{BodyServed}
use Rattle.harl.proofs.Accepted.{accepted_in_range}
use Rattle.frame.proofs.Short.{frame_fits}
use Rattle.replies.proofs.Texts.{refusal_length, performed_length}
use Rattle.gateway.proofs.serve.serve_body.Goals as goal

-- what the reader of the body said of what it was judged
judged_of : (p : ℕ → ℕ) (v : Judged) → (judged_at p v).0 ≡ v
judged_of p (Accepted r) = refl
judged_of p (Refused n store) = refl

module _ (p : ℕ → ℕ) (v : Judged) where
  accepted_as : {r : Request} → (Accepted r, 0) ≡ judged_at p v → v ≡ Accepted r
  accepted_as e = sym (judged_of p v) ∙ sym (ap (λ (x : Judged × ℕ). x.0) e)

  refused_as : {n q : ℕ} {store : Bool} → refused_at n store q ≡ judged_at p v → (v ≡ Refused n store) × (q ≡ p n)
  refused_as {n} {q} {store} e =
      let s : v ≡ Refused n store = sym (judged_of p v) ∙ sym (ap (λ (x : Judged × ℕ). x.0) e) in
      (s, ap (λ (x : Judged × ℕ). x.1) e ∙ ap (λ (w : Judged). (judged_at p w).1) s)

-- what was put at the front of the area is the reply, and had room
put_wrote : {n p m : ℕ} {xs ys : List ℕ} (s : ℕ) (text : List ℕ) → length text ≤ 56 → 64 ≤ length xs → PutAt xs 0 (frame_of s text) m ys → Wrote (record { number = n; position = p; bytes = frame_of s text }) xs (record { number = n; length = m; position = p }) ys
put_wrote s text short room w =
    record { number = refl; position = refl; length_is = omega (arith, w.next); fits = omega (arith, frame_fits s text (omega arith)); area = w.area }

module _ {k s : ℕ} {slice : List ℕ} {t : Tables} {xs ys : List ℕ} {m : ℕ} (room : 64 ≤ length xs) where
  asked_served : {r : Request} {o : Outcome} {t' : Tables} → read_body (read_frame slice).body ≡ Accepted r → Performed k r t t' o → {n : ℕ} → n ≡ number_in o → PutAt xs 0 (frame_of s (performed_text o)) m ys → BodyServed k s slice t xs (record { number = n; length = m; position = 0 }) t' ys
  unfolding respond
  asked_served {r} {o} e p q w =
      record {
        answer_is = λ st. rw (e, ← p.outcome, q) (put_wrote s (performed_text o) (performed_length o).1 room w);
        tables_are = rw e p.tables;
      }

  refused_served : {n n' p : ℕ} {store : Bool} → (read_body (read_frame slice).body ≡ Refused n store) × (p ≡ body_position slice n) → n' ≡ n → PutAt xs 0 (frame_of s (refusal_text n store)) m ys → BodyServed k s slice t xs (record { number = n'; length = m; position = p }) t ys
  unfolding respond
  refused_served {n} {n'} {p} {store} (e, q) q' w =
      record {
        answer_is = λ st. rw (e, q, q') (put_wrote s (refusal_text n store) (omega (arith, refusal_length n store)) room w);
        tables_are = rw e;
      }

pub perform_parsed-outcome-requires : goal.perform_parsed-outcome-requires
perform_parsed-outcome-requires c =
    accepted_in_range _ _ (accepted_as (body_position c.args.slice.now) _ c.in-Ok.ensures)

pub returns-in-Ok-clause-served : goal.returns-in-Ok-clause-served
returns-in-Ok-clause-served c =
    asked_served c.requires.room (accepted_as (body_position c.args.slice.now) _ c.in-Ok.ensures) c.perform_parsed-outcome.ensures.performed c.number_in.ensures c.put_reply-length.ensures

pub returns-in-Err-clause-served : goal.returns-in-Err-clause-served
returns-in-Err-clause-served c =
    refused_served c.requires.room (refused_as (body_position c.args.slice.now) _ c.in-Err.ensures) c.number-number.ensures (rw c.number-number.ensures at c.put_refused-length.ensures)
