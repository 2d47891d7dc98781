-- What serving the next of two ports comes to, by numbers.
use Rattle.std.specs.Prelude.{Result, Ok, Err}
use Rattle.refusals.specs.declared.refusal.Refusal.{Refusal}
use Rattle.refusals.specs.Refusal as refusals
use Rattle.chooser.specs.Turn.{none, number_of}
use Rattle.harl.specs.Message.{unsent}
use Rattle.hosts.specs.declared.next.ServedPort.{ServedPort}
use Rattle.hosts.specs.declared.next.Next.{Next}

-- the port that was served, and what serving its slice returned; none, and the refusal
abbrev pub told : Result ServedPort Refusal → Next
told (Ok s) = record { port = number_of s.port; sent = s.sent }
told (Err r) = record { port = none; sent = unsent (refusals.number_of r) 0 }
