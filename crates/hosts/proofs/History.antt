-- The calls of two computers are a list that demand 3 is about.
use Prim.Native.Nat.{ℕ}
use mathlib.Core.Path.{◌≡◌, refl, sym, ap, ap₂, subst, ◌∙◌}
use mathlib.Core.Bool.{Bool, true, false, cond}
use mathlib.Core.List.{List, [], ◌∷◌, map}
use borrow.Author.Tests.{eqb-true, eqb-false}
use lib.Dec.{eqb}
use lib.ListN.{length}
use Rattle.chooser.specs.Turn.{none, Buffers, slice_at, Pick, pick}
use Rattle.chooser.specs.Fair.{picks}
use Rattle.tables.specs.Tables.{Tables}
use Rattle.model.specs.Call.{Call, serve}
use Rattle.model.specs.Box.{Box, box}
use Rattle.model.proofs.Isolation.{demand3}
use Rattle.gateway.specs.Entries.{Served}
use Rattle.gateway.specs.History.{served, call_of, tables_after}
use Rattle.gateway.specs.History as gateway
use Rattle.gateway.proofs.History.{code_isolated}
use Rattle.hosts.specs.declared.next.Next.{Next}
use Rattle.hosts.specs.Next.{NextServed}
use Rattle.hosts.specs.History.{calls, Made, next_made, choose_made, other_made, arrival_of, History, last, made, held_in, named, HostsIsolated}

-- ---- the order

ports_named : (ms : List Made) (b : Box) (turn : ℕ) → History b turn ms → named ms ≡ map (λ (q : Pick). q.port) (picks turn (held_in ms))
unfolding History named held_in picks
ports_named [] b turn k = refl
ports_named (next_made h before r turn' t later ∷ ms) b turn k =
    ap₂ (λ (n : ℕ) (ns : List ℕ). n ∷ ns) k.0.port_is (ports_named ms (box b.stations t) turn' k.1 ∙ ap (λ (u : ℕ). map (λ (q : Pick). q.port) (picks u (held_in ms))) k.0.turn_is)
ports_named (choose_made h number port turn' part ∷ ms) b turn k =
    ap₂ (λ (n : ℕ) (ns : List ℕ). n ∷ ns) k.0.port_is (ports_named ms b turn' k.1 ∙ ap (λ (u : ℕ). map (λ (q : Pick). q.port) (picks u (held_in ms))) k.0.turn_is)
ports_named (other_made m ∷ ms) b turn k = ports_named ms (box b.stations (tables_after b m)) turn k.1

calls_made : (ms : List Made) (b : Box) (turn : ℕ) → History b turn ms → map call_of (made ms) ≡ calls turn (map arrival_of ms)
unfolding History made calls pick
calls_made [] b turn k = refl
calls_made (next_made h before r turn' t later ∷ ms) b turn k =
    rw k.0.port_is (go (eqb (pick h turn).port none) (calls_made ms (box b.stations t) turn' k.1 ∙ ap (λ (u : ℕ). calls u (map arrival_of ms)) k.0.turn_is))
  where
    go : (idle : Bool) {cs : List Call} → map call_of (made ms) ≡ cs
        → map call_of (cond idle (made ms) (served (slice_at (pick h turn).port h) before r.sent t later ∷ made ms)) ≡ cond idle cs (serve (slice_at (pick h turn).port h) (length before) ∷ cs)
    go true e = e
    go false e = ap (λ (cs : List Call). serve (slice_at (pick h turn).port h) (length before) ∷ cs) e
calls_made (choose_made h number port turn' part ∷ ms) b turn k = calls_made ms b turn' k.1 ∙ ap (λ (u : ℕ). calls u (map arrival_of ms)) k.0.turn_is
calls_made (other_made m ∷ ms) b turn k = ap (λ (cs : List Call). call_of m ∷ cs) (calls_made ms (box b.stations (tables_after b m)) turn k.1)

-- ---- the calls as the program saw them

-- a pick that finds no port leaves the box as it was
idle_box : {b : Box} {turn turn' : ℕ} {h : Buffers} {before later : List ℕ} {r : Next} {t : Tables} → NextServed b turn h before r turn' t later → eqb r.port none ≡ true → box b.stations t ≡ b
idle_box {b} k e = ap (box b.stations) (k.idle (sym k.port_is ∙ eqb-true _ _ e)).tables_are

-- else the waiting slice of the port that is named was served
port_served : {b : Box} {turn turn' : ℕ} {h : Buffers} {before later : List ℕ} {r : Next} {t : Tables} → NextServed b turn h before r turn' t later → eqb r.port none ≡ false → Served b (slice_at r.port h) before r.sent t later
unfolding pick
port_served k e = rw k.port_is (k.served (λ z. eqb-false _ _ e (k.port_is ∙ z)))

history_made : (ms : List Made) (b : Box) (turn : ℕ) → History b turn ms → gateway.History b (made ms)
unfolding History made gateway.History
history_made [] b turn k = tt
history_made (next_made h before r turn' t later ∷ ms) b turn k = go (eqb r.port none) refl (history_made ms (box b.stations t) turn' k.1)
  where
    go : (idle : Bool) → eqb r.port none ≡ idle → gateway.History (box b.stations t) (made ms)
        → gateway.History b (cond idle (made ms) (served (slice_at r.port h) before r.sent t later ∷ made ms))
    go true e l = subst (λ (d : Box). gateway.History d (made ms)) (idle_box k.0 e) l
    go false e l = (port_served k.0 e, l)
history_made (choose_made h number port turn' part ∷ ms) b turn k = history_made ms b turn' k.1
history_made (other_made m ∷ ms) b turn k = (k.0, history_made ms (box b.stations (tables_after b m)) turn k.1)

last_made : (ms : List Made) (b : Box) (turn : ℕ) → History b turn ms → gateway.last b (made ms) ≡ last b ms
unfolding History made last gateway.last
last_made [] b turn k = refl
last_made (next_made h before r turn' t later ∷ ms) b turn k = go (eqb r.port none) refl (last_made ms (box b.stations t) turn' k.1)
  where
    go : (idle : Bool) → eqb r.port none ≡ idle → gateway.last (box b.stations t) (made ms) ≡ last (box b.stations t) ms
        → gateway.last b (cond idle (made ms) (served (slice_at r.port h) before r.sent t later ∷ made ms)) ≡ last (box b.stations t) ms
    go true e l = ap (λ (d : Box). gateway.last d (made ms)) (sym (idle_box k.0 e)) ∙ l
    go false e l = l
last_made (choose_made h number port turn' part ∷ ms) b turn k = last_made ms b turn' k.1
last_made (other_made m ∷ ms) b turn k = last_made ms (box b.stations (tables_after b m)) turn k.1

-- ---- demand 3

pub hosts_isolated : HostsIsolated
hosts_isolated want p number st turn t ms s k =
    let l = rw s.turn_is at k in
    let h = history_made ms (box st t) turn k in
    record {
      ports_are = ports_named ms (box st t) _ l;
      calls_are = calls_made ms (box st t) _ l;
      demand3 = demand3 want p _;
      history = h;
      last_is = last_made ms (box st t) turn k;
      alone = code_isolated want p number st turn t (made ms) s h;
    }
