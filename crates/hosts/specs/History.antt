-- Demand 3 with two computers: what a program saw that called `setup`, and then `serve_next` and `choose` with whatever both ports
-- held, and between these `serve`, `input` and `outputs_on`, each on the memory as the last call left it (proved in
-- proofs/History.antt).
use Rattle.std.specs.Prelude.{ℕ, ◌≡◌, cond, List, [], ◌∷◌, map, eqb, length}
use Rattle.chooser.specs.Turn.{none, fresh, Buffers, slice_at, Pick, pick, Picked}
use Rattle.chooser.specs.Fair.{picks}
use Rattle.tables.specs.Tables.{Tables}
use Rattle.model.specs.Call.{Call, serve}
use Rattle.model.specs.Box.{Box, box}
use Rattle.model.specs.Demand3.{Demand3}
use Rattle.model.specs.Addressed.{Fitted}
use Rattle.slots.specs.Entries.{SetUp}
use Rattle.gateway.specs.History.{served, call_of, tables_after, Alone}
use Rattle.gateway.specs.History as gateway
use Rattle.hosts.specs.declared.next.Next.{Next}
use Rattle.hosts.specs.Next.{NextServed}

-- ---- what comes to the box

-- next: what both ports hold when one is picked and served, and the length of the reply area. choose: what they hold when one is
-- picked alone. call: a call that takes no turn
pub data Arrival : Type 0 where
  next : Buffers → ℕ → Arrival
  choose : Buffers → Arrival
  call : Call → Arrival

-- the calls on the box in the order served, whichever port sent them, with the other calls between: each pick is given the turn
-- as the last one left it, and where neither port waits there is no call
unfoldable pub calls : ℕ → List Arrival → List Call
calls turn [] = []
calls turn (next h room ∷ es) =
    let p = pick h turn in
    cond (eqb p.port none) (calls p.turn es) (serve p.part room ∷ calls p.turn es)
calls turn (choose h ∷ es) = calls (pick h turn).turn es
calls turn (call c ∷ es) = c ∷ calls turn es

-- ---- what a program saw

-- a call that was made. next_made: what both ports held, the reply area before, what was returned, the turn, the tables and the
-- area after. choose_made: what both ports held, the number, the port, the turn after, the part that was returned. other_made: a
-- call that takes no turn
pub data Made : Type 0 where
  next_made : Buffers → List ℕ → Next → ℕ → Tables → List ℕ → Made
  choose_made : Buffers → ℕ → ℕ → ℕ → List ℕ → Made
  other_made : gateway.Made → Made

abbrev pub arrival_of : Made → Arrival
arrival_of (next_made h before r turn t later) = next h (length before)
arrival_of (choose_made h number port turn part) = choose h
arrival_of (other_made m) = call (call_of m)

-- the turn and the box after it
abbrev pub turn_after : ℕ → Made → ℕ
turn_after turn (next_made h before r turn' t later) = turn'
turn_after turn (choose_made h number port turn' part) = turn'
turn_after turn (other_made m) = turn

abbrev pub box_after : Box → Made → Box
box_after b (next_made h before r turn t later) = box b.stations t
box_after b (choose_made h number port turn part) = b
box_after b (other_made m) = box b.stations (tables_after b m)

-- what the contract of the entry promises of the call
abbrev pub Promised : Box → ℕ → Made → Type 0
Promised b turn (next_made h before r turn' t later) = NextServed b turn h before r turn' t later
Promised b turn (choose_made h number port turn' part) = Picked (pick h turn) number port turn' part
Promised b turn (other_made m) = gateway.Promised b m

-- each call made on the box and the turn as the last one left them
unfoldable pub History : Box → ℕ → List Made → Type 0
History b turn [] = Unit
History b turn (m ∷ ms) = Promised b turn m × History (box_after b m) (turn_after turn m) ms

-- the box that the last call leaves
unfoldable pub last : Box → List Made → Box
last b [] = b
last b (m ∷ ms) = last (box_after b m) ms

-- the calls as if there were one computer: where `serve_next` named a port, its waiting slice was served
unfoldable pub made : List Made → List gateway.Made
made [] = []
made (next_made h before r turn t later ∷ ms) =
    cond (eqb r.port none) (made ms) (served (slice_at r.port h) before r.sent t later ∷ made ms)
made (choose_made h number port turn part ∷ ms) = made ms
made (other_made m ∷ ms) = m ∷ made ms

-- what both ports held at each pick, and the port that was named
unfoldable pub held_in : List Made → List Buffers
held_in [] = []
held_in (next_made h before r turn t later ∷ ms) = h ∷ held_in ms
held_in (choose_made h number port turn part ∷ ms) = h ∷ held_in ms
held_in (other_made m ∷ ms) = held_in ms

unfoldable pub named : List Made → List ℕ
named [] = []
named (next_made h before r turn t later ∷ ms) = r.port ∷ named ms
named (choose_made h number port turn part ∷ ms) = port ∷ named ms
named (other_made m ∷ ms) = named ms

-- ---- demand 3

-- ms are the calls on the box that setup left
pub record OnPorts (want p st : List ℕ) (t : Tables) (ms : List Made) : Type 0 where
  -- the ports named are those of the picks from the fresh turn, so that `Fair` is about them
  pub ports_are : named ms ≡ map (λ (q : Pick). q.port) (picks fresh (held_in ms))
  -- the calls are those that the picks make of what both ports held
  pub calls_are : map call_of (made ms) ≡ calls fresh (map arrival_of ms)
  -- they are a list that demand 3 is about
  pub demand3 : Demand3 want p (calls fresh (map arrival_of ms))
  -- as the program saw them they are a history of one computer's calls, which leaves the same box
  pub history : gateway.History (box st t) (made ms)
  pub last_is : gateway.last (box st t) (made ms) ≡ last (box st t) ms
  -- so each fitted arm's tables, steps and answers are those of its lone box
  pub alone : (k : ℕ) → Fitted k st → Alone (box st t) k (made ms)

abbrev pub HostsIsolated : Type 0
HostsIsolated =
    (want p : List ℕ) (number : ℕ) (st : List ℕ) (turn : ℕ) (t : Tables) (ms : List Made)
    → SetUp want p number st turn t → History (box st t) turn ms → OnPorts want p st t ms
