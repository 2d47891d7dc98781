-- What a call of the receiver does (document 02, E1): bytes are taken until a slice is finished or none is left.
use Rattle.std.specs.Prelude.{ℕ, suc, ◌≤◌, ◌≡◌, Bool, true, false, cond, List, [], ◌∷◌, ◌++◌, ltb, length, take, set}
use Rattle.std.proofs.lemmas.List.Edits.{sets}
use Rattle.receiver.specs.Rule.{Effect, dropped, begun, added, finished, effect, held_after, ends}
use Rattle.receiver.specs.declared.receive.Receiver.{Receiver}
use Rattle.receiver.specs.declared.receive.Reception.{Reception}
use Rattle.receiver.specs.declared.receive.Step.{Step}
use Rattle.receiver.specs.declared.receive.Step.TheVariants.{Finished, Held}

-- ---- the state that the caller keeps: a memory of 255 bytes and a count

-- how many bytes of the memory are held; a count that no call leaves means none
unfoldable pub standing : ℕ → ℕ
standing n = cond (ltb n 255) n 0

-- the bytes held
abbrev pub held_in : List ℕ → ℕ → List ℕ
held_in m n = take (standing n) m

-- the memory after a byte, where n are held: STX that begins a frame stands at its front, any other byte that is not dropped
-- behind those held
abbrev pub stored : Effect → List ℕ → ℕ → ℕ → List ℕ
stored dropped m n b = m
stored begun m n b = set m 0 b
stored added m n b = set m n b
stored finished m n b = set m n b

-- ---- one call

-- what was taken: how many bytes, the slice that was finished or none (which is empty), the bytes held then, the memory then
pub record Taken : Type 0 where
  pub taken : ℕ
  pub slice : List ℕ
  pub held : List ℕ
  pub memory : List ℕ

-- one byte before those
abbrev pub one_more : Taken → Taken
one_more t = record { taken = suc t.taken; slice = t.slice; held = t.held; memory = t.memory }

-- of the bytes that arrived, with the memory as it is and some held
unfoldable pub taken : List ℕ → List ℕ → List ℕ → Taken
taken m held [] = record { taken = 0; slice = []; held = held; memory = m }
taken m held (b ∷ bs) =
    let e = effect held b in
    let m' = stored e m (length held) b in
    cond (ends e)
    (record { taken = 1; slice = held ++ (b ∷ []); held = []; memory = m' })
    (one_more (taken m' (held_after e held b) bs))

-- what a call comes to: the refusal number, what was taken, and the count that it leaves
pub record Outcome : Type 0 where
  pub number : ℕ
  pub all : Taken
  pub count : ℕ

abbrev pub took : Taken → Outcome
took t = record { number = 0; all = t; count = length t.held }

-- 1 ROOM: nothing is taken, and nothing changes
abbrev pub no_room : List ℕ → ℕ → Outcome
no_room m n = record { number = 1; all = record { taken = 0; slice = []; held = held_in m n; memory = m }; count = n }

-- a call on the memory and the count, with what has arrived and an area for a slice
unfoldable pub received : List ℕ → ℕ → List ℕ → ℕ → Outcome
received m n arrived room = cond (ltb room 255) (no_room m n) (took (taken m (held_in m n) arrived))

-- that is what a call returned and left
pub record Received (o : Outcome) (before : List ℕ) (r : Reception) (m : List ℕ) (n : ℕ) (later : List ℕ) : Type 0 where
  pub number_is : r.number ≡ o.number
  pub taken_is : r.taken ≡ o.all.taken
  pub length_is : r.length ≡ length o.all.slice
  -- the slice is within the area, at its front, and the rest of the area is untouched
  pub fits : length o.all.slice ≤ length before
  pub area_is : later ≡ sets before 0 o.all.slice
  -- the state
  pub count_is : n ≡ o.count
  pub memory_is : m ≡ o.all.memory
  pub held_is : held_in m n ≡ o.all.held

-- both are the same state in memory, whatever it holds
pub record SameState (a b : Receiver) : Type 0 where
  pub held : a.held.ghost_name ≡ b.held.ghost_name
  pub count : a.count.ghost_name ≡ b.count.ghost_name

-- ---- one byte

-- whether a byte finished a slice
abbrev pub is_done : Step → Bool
is_done (Finished n) = true
is_done (Held n) = false

-- how many bytes that slice has, or are held
abbrev pub count_of : Step → ℕ
count_of (Finished n) = n
count_of (Held n) = n

-- what `take_byte` returns and leaves, where the first n bytes of m are held
pub record Stepped (m : List ℕ) (n b : ℕ) (r : Step) (m' : List ℕ) : Type 0 where
  pub done_is : is_done r ≡ ends (effect (take n m) b)
  pub memory_is : m' ≡ stored (effect (take n m) b) m (length (take n m)) b
  pub bytes_are : take (count_of r) m' ≡ cond (is_done r) (take n m ++ (b ∷ [])) (held_after (effect (take n m) b) (take n m) b)
  pub fits : count_of r ≤ 255
  pub held_fits : cond (is_done r) 0 (count_of r) ≤ 254
