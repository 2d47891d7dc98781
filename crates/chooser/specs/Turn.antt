-- Which of two ports is served next (document 02, E5). A port is where one computer is connected to the box; it lends a buffer
-- with one waiting slice.
use Rattle.std.specs.Prelude.{ℕ, ◌≡◌, Bool, false, cond, List, [], eqb, leb, length, take, Option, Some, None, Result, Ok, Err}
use Rattle.refusals.specs.declared.refusal.Refusal.{Refusal}
use Rattle.chooser.specs.declared.choose.Port.{Port}
use Rattle.chooser.specs.declared.choose.Port.TheVariants.{A, B}
use Rattle.chooser.specs.declared.choose.Choice.{Choice}

-- the ports as numbers; none where neither is meant
abbrev pub none : ℕ
none = 0

abbrev pub port_a : ℕ
port_a = 1

abbrev pub port_b : ℕ
port_b = 2

abbrev pub number_of : Port → ℕ
number_of A = port_a
number_of B = port_b

-- the turn keeps the port that was served last, none in a new box. Every other value means what none does
abbrev pub fresh : ℕ
fresh = none

-- what both ports hold when a pick is made: a buffer each, and how many bytes of it wait
pub record Buffers : Type 0 where
  pub a : List ℕ
  pub waiting_a : ℕ
  pub b : List ℕ
  pub waiting_b : ℕ

abbrev pub buffers : List ℕ → ℕ → List ℕ → ℕ → Buffers
buffers a n b m = record { a = a; waiting_a = n; b = b; waiting_b = m }

-- whether a slice waits: a waiting length of zero, or beyond the buffer, means none
unfoldable pub is_waiting : List ℕ → ℕ → Bool
is_waiting buffer n = cond (eqb n 0) false (leb n (length buffer))

-- the slice that waits
abbrev pub waiting_in : List ℕ → ℕ → Option (List ℕ)
waiting_in buffer n = cond (is_waiting buffer n) (Some (take n buffer)) None

-- the port that is picked, by whether a slice waits at A and at B: when both wait, the one not served last
unfoldable pub port_picked : Bool → Bool → ℕ → ℕ
port_picked a b turn = cond a (cond b (cond (eqb turn port_a) port_b port_a) port_a) (cond b port_b none)

-- the waiting slice of a port, as it stands in its buffer; of no port, nothing
unfoldable pub slice_at : ℕ → Buffers → List ℕ
slice_at port h = cond (eqb port port_a) (take h.waiting_a h.a) (cond (eqb port port_b) (take h.waiting_b h.b) [])

-- the refusal number, the port, the turn afterwards, and the part of that port's buffer
pub record Pick : Type 0 where
  pub number : ℕ
  pub port : ℕ
  pub turn : ℕ
  pub part : List ℕ

-- 17 IDLE where there is no port: no turn is used
abbrev pub pick_of : Buffers → ℕ → ℕ → Pick
pick_of h turn port =
    record {
      number = cond (eqb port none) 17 0;
      port = port;
      turn = cond (eqb port none) turn port;
      part = slice_at port h;
    }

-- of what both ports hold, and the turn
unfoldable pub pick : Buffers → ℕ → Pick
pick h turn = pick_of h turn (port_picked (is_waiting h.a h.waiting_a) (is_waiting h.b h.waiting_b) turn)

-- that is what a call returned and left
pub record Picked (p : Pick) (number port turn : ℕ) (part : List ℕ) : Type 0 where
  pub number_is : number ≡ p.number
  pub port_is : port ≡ p.port
  pub turn_is : turn ≡ p.turn
  pub part_is : part ≡ p.part

-- the port that was picked, none where the call was refused, and the bytes handed back
abbrev pub port_in : Result Choice Refusal → ℕ
port_in (Ok c) = number_of c.port
port_in (Err r) = none

abbrev pub part_in : Result Choice Refusal → List ℕ
part_in (Ok c) = c.part.now
part_in (Err r) = []
