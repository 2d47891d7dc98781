use native.Mathlib.Omega.{arith}
use Rattle.tables.specs.Tables.{stored}
use Rattle.tables.proofs.Ranges.{store_within}
use borrow.Author.Rules.{rules}
use Rattle.tables.proofs.arms.Arms.store.Goals as goal

pub store_word-requires : goal.store_word-requires
store_word-requires c =
    let b = store_within c.in-Timer.is c.requires in
    search rules

pub store_word-requires-in-Register : goal.store_word-requires-in-Register
store_word-requires-in-Register c =
    let b = store_within c.in-Register.is c.requires in
    search rules

pub store_row-requires : goal.store_row-requires
store_row-requires c = (store_within c.in-Row.is c.requires).0

pub store_output-requires : goal.store_output-requires
store_output-requires c =
    let b = store_within c.in-Output.is c.requires in
    search rules

pub store_output_port-requires : goal.store_output_port-requires
store_output_port-requires c =
    let b = store_within c.in-OutputPort.is c.requires in
    search rules

pub place_of-requires-in-MemoryBit : goal.place_of-requires-in-MemoryBit
place_of-requires-in-MemoryBit c = omega (arith, store_within c.in-MemoryBit.is c.requires)

pub store_bit-requires : goal.store_bit-requires
store_bit-requires c =
    let b = store_within c.in-MemoryBit.is c.requires in
    search rules

pub store_port-requires : goal.store_port-requires
store_port-requires c =
    let b = store_within c.in-MemoryPort.is c.requires in
    search rules

pub overflow_cast-n : goal.overflow_cast-n
overflow_cast-n c = record { fits = (store_within c.in-Step.is c.requires).0 }

pub returns-in-Row-clause-tables_after : goal.returns-in-Row-clause-tables_after
unfolding stored
returns-in-Row-clause-tables_after c = rw (c.in-Row.is, c.store_row.ensures.tables_after _)
