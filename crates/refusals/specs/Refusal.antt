-- The numbers of the refusals (document 01, "Refusal numbers, in the order checked"; for EMPTY and IDLE document 02).
use Rattle.std.specs.Prelude.{ℕ, Result, Ok, Err}
use Rattle.refusals.specs.declared.refusal.Refusal.{Refusal}
use Rattle.refusals.specs.declared.refusal.Refusal.TheVariants.{Room, Length, Start, End, Lrc, Stray, Station, Absent, Command, Shape, Number, Value, Setup, Input, Reply, Empty, Idle}
use Rattle.refusals.specs.declared.refusal.Refused.{Refused}

abbrev pub number_of : Refusal → ℕ
number_of Room = 1
number_of Length = 2
number_of Start = 3
number_of End = 4
number_of Lrc = 5
number_of Stray = 6
number_of Station = 7
number_of Absent = 8
number_of Command = 9
number_of Shape = 10
number_of Number = 11
number_of Value = 12
number_of Setup = 13
number_of Input = 14
number_of Reply = 15
number_of Empty = 16
number_of Idle = 17

-- the number that a call comes to: 0 where it is not refused
abbrev pub refusal_number : {A : Type 0} → Result A Refusal → ℕ
refusal_number (Ok a) = 0
refusal_number (Err r) = number_of r

abbrev pub refused_at : Refusal → ℕ → Refused
refused_at r p = record { refusal = r; position = p }

-- the same of a refusal with a position, and the position; 0 where there is none to tell
abbrev pub refused_number : {A : Type 0} → Result A Refused → ℕ
refused_number (Ok a) = 0
refused_number (Err r) = number_of r.refusal

abbrev pub refused_position : {A : Type 0} → Result A Refused → ℕ
refused_position (Ok a) = 0
refused_position (Err r) = r.position
