-- What holds of a pick and of any list of picks, by what waits at the ports (proved in proofs/Picks.antt and Fair.antt).
use Rattle.std.specs.Prelude.{ℕ, ◌≤◌, ◌<◌, ◌≡◌, List, [], ◌∷◌, length, take}
use Rattle.chooser.specs.declared.choose.Port.{Port}
use Rattle.chooser.specs.declared.choose.Port.TheVariants.{A, B}
use Rattle.chooser.specs.Turn.{none, number_of, fresh, Buffers, Pick, pick}

abbrev pub buffer : Port → Buffers → List ℕ
buffer A h = h.a
buffer B h = h.b

abbrev pub waiting : Port → Buffers → ℕ
waiting A h = h.waiting_a
waiting B h = h.waiting_b

-- a slice waits at the port
abbrev pub Waits : Port → Buffers → Type 0
Waits p h = (0 < waiting p h) × (waiting p h ≤ length (buffer p h))

-- ---- one pick, from any turn

-- the number is 17 where neither waits, and 0 where one does
abbrev pub Idle : Type 0
Idle =
    (h : Buffers) (turn : ℕ)
    → ((p : Port) → Waits p h → ⊥)
    → pick h turn ≡ record { number = 17; port = none; turn = turn; part = [] }

abbrev pub NotIdle : Type 0
NotIdle = (h : Buffers) (turn : ℕ) (p : Port) → Waits p h → (pick h turn).number ≡ 0

-- a port that is named waits; its waiting bytes are handed back, and the turn keeps it
pub record Handed (h : Buffers) (turn : ℕ) (p : Port) : Type 0 where
  pub waits : Waits p h
  pub pick_is : pick h turn ≡ record { number = 0; port = number_of p; turn = number_of p; part = take (waiting p h) (buffer p h) }

abbrev pub HandsBack : Type 0
HandsBack = (h : Buffers) (turn : ℕ) (p : Port) → (pick h turn).port ≡ number_of p → Handed h turn p

-- in a new box A goes first
abbrev pub FirstA : Type 0
FirstA = (h : Buffers) → Waits A h → (pick h fresh).port ≡ number_of A

-- ---- a list of picks

-- each given the turn as the last one left it
unfoldable pub picks : ℕ → List Buffers → List Pick
picks turn [] = []
picks turn (h ∷ hs) = pick h turn ∷ picks (pick h turn).turn hs

-- the port waits at every pick
abbrev pub AlwaysWaits : Port → List Buffers → Type 0
AlwaysWaits p [] = Unit
AlwaysWaits p (h ∷ hs) = Waits p h × AlwaysWaits p hs

-- no pick names the port
abbrev pub NeverNamed : Port → List Pick → Type 0
NeverNamed p [] = Unit
NeverNamed p (k ∷ ks) = (k.port ≡ number_of p → ⊥) × NeverNamed p ks

-- while a port waits and is not served, the other is served at most once. From any turn, so that it holds of every run of
-- picks in a longer list
abbrev pub Fair : Type 0
Fair = (p : Port) (turn : ℕ) (hs : List Buffers) → AlwaysWaits p hs → NeverNamed p (picks turn hs) → length hs ≤ 1
