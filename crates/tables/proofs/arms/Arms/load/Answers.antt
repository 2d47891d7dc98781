use native.Mathlib.Omega.{arith}
use Rattle.tables.proofs.Ranges.{load_within}
use borrow.Author.Rules.{rules}
use Rattle.tables.proofs.arms.Arms.load.Goals as goal

pub load_word-requires : goal.load_word-requires
load_word-requires c =
    let b = load_within c.in-Timer.is c.requires in
    search rules

pub load_word-requires-in-Register : goal.load_word-requires-in-Register
load_word-requires-in-Register c =
    let b = load_within c.in-Register.is c.requires in
    search rules

pub load_row-requires : goal.load_row-requires
load_row-requires c = load_within c.in-Row.is c.requires

pub load_signal-requires : goal.load_signal-requires
load_signal-requires c =
    let b = load_within c.in-Input.is c.requires in
    search rules

pub load_port-requires : goal.load_port-requires
load_port-requires c =
    let b = load_within c.in-InputPort.is c.requires in
    search rules

pub load_signal-requires-in-Output : goal.load_signal-requires-in-Output
load_signal-requires-in-Output c =
    let b = load_within c.in-Output.is c.requires in
    search rules

pub load_port-requires-in-OutputPort : goal.load_port-requires-in-OutputPort
load_port-requires-in-OutputPort c =
    let b = load_within c.in-OutputPort.is c.requires in
    search rules

pub place_of-requires-in-MemoryBit : goal.place_of-requires-in-MemoryBit
place_of-requires-in-MemoryBit c = omega (arith, load_within c.in-MemoryBit.is c.requires)

pub load_signal-requires-in-MemoryBit : goal.load_signal-requires-in-MemoryBit
load_signal-requires-in-MemoryBit c =
    let b = load_within c.in-MemoryBit.is c.requires in
    search rules

pub load_port-requires-in-MemoryPort : goal.load_port-requires-in-MemoryPort
load_port-requires-in-MemoryPort c =
    let b = load_within c.in-MemoryPort.is c.requires in
    search rules

pub load_program-requires : goal.load_program-requires
load_program-requires c = load_within c.in-Step.is c.requires
