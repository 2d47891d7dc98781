-- The slices handed out, call by call, are those of the whole line (proved in proofs/Line.antt).
use Rattle.std.specs.Prelude.{ℕ, ◌≡◌, cond, List, [], ◌∷◌, ◌++◌, eqb, length, take}
use Rattle.receiver.specs.Rule.{slices}
use Rattle.receiver.specs.Receive.{received, Received}
use Rattle.receiver.specs.declared.receive.Reception.{Reception}

-- a call that a program made: what had arrived, the area before, what was returned, and the memory, the count and the area after
pub record Made : Type 0 where
  pub arrived : List ℕ
  pub before : List ℕ
  pub returned : Reception
  pub memory : List ℕ
  pub count : ℕ
  pub later : List ℕ

-- what the contract of `receive` promises of the call, made on a memory and a count
abbrev pub Promised : List ℕ → ℕ → Made → Type 0
Promised m n c = Received (received m n c.arrived (length c.before)) c.before c.returned c.memory c.count c.later

-- each call made on the state as the last one left it
unfoldable pub History : List ℕ → ℕ → List Made → Type 0
History m n [] = Unit
History m n (c ∷ cs) = Promised m n c × History c.memory c.count cs

-- the slices that the program was handed: of each call as many bytes of the area as were reported, none where that is 0
unfoldable pub handed : List Made → List (List ℕ)
handed [] = []
handed (c ∷ cs) = cond (eqb c.returned.length 0) [] (take c.returned.length c.later ∷ []) ++ handed cs

-- the bytes taken, as one line
unfoldable pub line : List Made → List ℕ
line [] = []
line (c ∷ cs) = take c.returned.taken c.arrived ++ line cs

-- from fresh state, whatever the memory held, any list of calls, with any arrivals and any areas, refused calls among them
abbrev pub WholeLine : Type 0
WholeLine = (m : List ℕ) (cs : List Made) → History m 0 cs → handed cs ≡ slices (line cs)

-- two ways to cut the same line give the same slices
abbrev pub CutsAgree : Type 0
CutsAgree = (m m' : List ℕ) (cs ds : List Made) → History m 0 cs → History m' 0 ds → line cs ≡ line ds → handed cs ≡ handed ds
