-- Which object of a partition an object of the code is.
-- Assumes nothing: this is a definition.
use Rattle.objects.specs.Object as O
use Rattle.changes.specs.declared.events.Object.{Object}
use Rattle.changes.specs.declared.events.Object.TheVariants.{Filemark, Block}

abbrev pub object_of : Object → O.Object
object_of Filemark = O.filemark
object_of (Block bytes) = O.block bytes.now
