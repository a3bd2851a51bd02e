-- The command by its arm; what its code asks for, from the tests passed; and what it leaves.
-- Assumes nothing.
use mathlib.Core.Path.{◌≡◌, refl}
use Rattle.codes.specs.declared.operation.Operation.TheVariants.{TestUnitReady, Rewind, Read, Write, WriteFilemarks, Space, Erase, LoadUnload, Locate, ReadPosition, Space16, Locate16, NotServed}
use Rattle.commands.specs.Act.{act, events_of, marking, goes_down, offered}
use Rattle.commands.specs.Step.{acted}
use Rattle.commands.specs.Call.{laid_out}
use Rattle.acting.proofs.Acts.{acts_written, acts_laid, acts_quiet, acts_apart, writing_none, marking_none, spacing_none, locating_none}
use Rattle.acting.proofs.Asked.{five, asks_read, asks_write, asks_place, asks_space16, asks_locate, asks_locate16, asks_position, asks_protection, asks_apart}
use Rattle.acting.proofs.Told.{told_apart, among_apart}
use Rattle.acting.proofs.act_on.Goals as goal

pub read-requires : goal.read-requires
read-requires c = let w = asks_read c.requires c.in-Read.is in rw c.of.ensures (w.1, w.2, w.3, w.4)

pub write-requires : goal.write-requires
write-requires c = asks_write c.requires c.in-Write.is

pub write_filemarks-requires : goal.write_filemarks-requires
write_filemarks-requires c = let e : c.args.o ≡ WriteFilemarks = cc in asks_place c.requires e refl

pub space-requires : goal.space-requires
space-requires c = let w = asks_place c.requires c.in-Space.is refl in rw c.of-in-Space.ensures (w.1, w.2)

pub space16-requires : goal.space16-requires
space16-requires c = let w = asks_space16 c.requires c.in-Space16.is in rw c.of-in-Space16.ensures (w.1, w.2)

pub locate-requires : goal.locate-requires
locate-requires c = (asks_locate c.requires c.in-Locate.is).1

pub locate16-requires : goal.locate16-requires
locate16-requires c = (asks_locate16 c.requires c.in-Locate16.is).1

pub read_position-requires : goal.read_position-requires
read_position-requires c = let w = asks_position c.requires c.in-ReadPosition.is in rw c.of-in-ReadPosition.ensures (w.1, w.2, w.3)

pub erase-requires : goal.erase-requires
erase-requires c = let e : c.args.o ≡ Erase = cc in asks_place c.requires e refl

pub load_unload-requires : goal.load_unload-requires
load_unload-requires c = five c.requires.free

pub is_protected-requires : goal.is_protected-requires
is_protected-requires c = asks_protection c.requires

pub act_apart-requires : goal.act_apart-requires
act_apart-requires c = asks_apart c.requires c.is_protected.ensures (told_apart c.args.o (among_apart c.args.o c.in-RequestSense.is))

pub returns-in-Read : goal.returns-in-Read
unfolding act
returns-in-Read c = acts_laid _ _ _ _ _ Read c.in-Read.is (rw c.of.ensures at c.read.ensures.0) refl (rw c.of.ensures at c.read.ensures.1)

pub returns-in-Write : goal.returns-in-Write
unfolding act laid_out acted
returns-in-Write c = acts_written _ _ _ _ _ Write c.in-Write.is c.write.ensures.0 c.write.ensures.1 (writing_none _ _ _ _)

pub returns-in-WriteFilemarks : goal.returns-in-WriteFilemarks
unfolding act laid_out acted events_of marking goes_down offered
returns-in-WriteFilemarks c = acts_written _ _ _ _ _ WriteFilemarks (cc) (cc) (cc) (marking_none _ _ c.args.sent.now _)

pub returns-in-Space : goal.returns-in-Space
unfolding act
returns-in-Space c = acts_quiet _ _ _ _ _ Space c.in-Space.is (rw c.of-in-Space.ensures at c.space.ensures) refl (spacing_none _ _ _ _)

pub returns-in-Space16 : goal.returns-in-Space16
unfolding act
returns-in-Space16 c = acts_quiet _ _ _ _ _ Space16 c.in-Space16.is (rw c.of-in-Space16.ensures at c.space16.ensures) refl (spacing_none _ _ _ _)

pub returns-in-Locate : goal.returns-in-Locate
unfolding act
returns-in-Locate c = acts_quiet _ _ _ _ _ Locate c.in-Locate.is (rw c.of-in-Locate.ensures at c.locate.ensures) refl (locating_none _ _ _ _)

pub returns-in-Locate16 : goal.returns-in-Locate16
unfolding act
returns-in-Locate16 c = acts_quiet _ _ _ _ _ Locate16 c.in-Locate16.is (rw c.of-in-Locate16.ensures at c.locate16.ensures) refl (locating_none _ _ _ _)

pub returns-in-ReadPosition : goal.returns-in-ReadPosition
unfolding act
returns-in-ReadPosition c = acts_laid _ _ _ _ _ ReadPosition c.in-ReadPosition.is (rw c.of-in-ReadPosition.ensures at c.read_position.ensures.0) refl (rw c.of-in-ReadPosition.ensures at c.read_position.ensures.1)

pub returns-in-Erase : goal.returns-in-Erase
unfolding act laid_out acted events_of
returns-in-Erase c = acts_written _ _ _ _ _ Erase (cc) (cc) (cc) refl

pub returns-in-LoadUnload : goal.returns-in-LoadUnload
unfolding act
returns-in-LoadUnload c = acts_quiet _ _ _ _ _ LoadUnload c.in-LoadUnload.is c.load_unload.ensures refl refl

pub returns-in-Rewind : goal.returns-in-Rewind
unfolding act
returns-in-Rewind c = acts_quiet _ _ _ _ _ Rewind c.in-Rewind.is c.rewind.ensures refl refl

pub returns-in-TestUnitReady : goal.returns-in-TestUnitReady
unfolding act
returns-in-TestUnitReady c = acts_quiet _ _ _ _ _ TestUnitReady c.in-TestUnitReady.is c.good.ensures refl refl

pub returns-in-NotServed : goal.returns-in-NotServed
unfolding act
returns-in-NotServed c = acts_quiet _ _ _ _ _ NotServed c.in-NotServed.is c.good-in-NotServed.ensures refl refl

pub returns-in-RequestSense : goal.returns-in-RequestSense
returns-in-RequestSense c = acts_apart _ _ _ _ _ _ (told_apart c.args.o (among_apart c.args.o c.in-RequestSense.is)) c.is_protected.ensures c.act_apart.ensures
