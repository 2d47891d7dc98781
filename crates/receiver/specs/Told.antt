-- What a call of the receiver comes to, by numbers.
use Rattle.std.specs.Prelude.{Result, Ok, Err, unwrap_or}
use Rattle.refusals.specs.declared.refusal.Refusal.{Refusal}
use Rattle.refusals.specs.Refusal.{number_of}
use Rattle.receiver.specs.declared.receive.Taken.{Taken}
use Rattle.receiver.specs.declared.receive.Reception.{Reception}

-- the refusal number, or 0; how many bytes were taken; the length of the slice that was finished, 0 for none
abbrev pub told : Result Taken Refusal → Reception
told (Ok t) = record { number = 0; taken = t.taken; length = unwrap_or t.slice 0 }
told (Err r) = record { number = number_of r; taken = 0; length = 0 }
