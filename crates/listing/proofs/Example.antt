-- The listing of document 01's example E, computed from the definitions, and two refused inputs.
-- Assumes nothing.
use Rattle.std.proofs.Common.{◌≡◌, refl, [], replicate, codes}
use Rattle.words.specs.Words.{be, bytes}
use Rattle.answers.specs.Answers.{first}
use Rattle.image.specs.Image.{count, flags, directory, size, entry, top_bit, low31, end_at, follows, ordered, right_length, sound, used, room, object_at, upto, objects, fault_of}
use Rattle.image.specs.Example.{E}
use Rattle.listing.specs.Text.{digits, decimal}
use Rattle.listing.specs.Listing.{refusal, line, lines, heading, listing}

E_listing : listing E ≡ codes "objects 2 free 37\n0 block 3\n1 filemark\n"
unfolding E be bytes count flags directory size entry top_bit low31 end_at follows ordered right_length sound used room object_at upto objects fault_of first digits decimal refusal line lines heading listing
E_listing = refl

none_listing : listing [] ≡ codes "refused 7\n"
unfolding right_length fault_of first digits decimal refusal listing
none_listing = refl

-- 64 zeros
zeros_listing : listing (replicate 64 0) ≡ codes "refused 6\n"
unfolding be count flags directory size entry top_bit low31 end_at follows ordered right_length sound fault_of first digits decimal refusal listing
zeros_listing = refl
