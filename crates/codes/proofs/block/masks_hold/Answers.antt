-- The bytes from byte 1 on beside their masks, in order (`all_within`). The masks reach as far as any command block (`longest`), and judge as those
-- listed (`masks_judged`).
-- Assumes nothing.
use Rattle.std.proofs.Common.{take, ◌∙◌, arith, rules, tests}
use Rattle.std.proofs.lemmas.Iterator.{YieldsList-from_slice, YieldsList-from_zip}
use Rattle.std.proofs.lemmas.Iterator.Adapters.{YieldsList-from_skip}
use Rattle.std.proofs.lemmas.Iterator.Search.{all_from_yields_List}
use Rattle.codes.specs.Codes.{code_of}
use Rattle.codes.proofs.Rules.{long_enough, longest, within, all_within, masks_judged}
use Rattle.codes.proofs.block.masks_hold.Goals as goal

pub returns : goal.returns
returns c =
    let cmd = c.args.cmd.now in
    let n = c.block_length-n.result in
    let m = c.masks_of-masks.result in
    let l = longest (code_of cmd) (c.type_inv.cmd 0).fits in
    let in_order = YieldsList-from_zip {s = c.zip.result} (YieldsList-from_skip 1 (YieldsList-from_slice (take n cmd) cc) cc) (YieldsList-from_slice m cc) in
    all_from_yields_List within c.all.new.self _ _ c.all.ensures.ran in_order (λ x b q k. search (rules, tests))
    ∙ all_within cmd m n (omega (arith, long_enough cmd c.requires)) (omega arith)
    ∙ masks_judged cmd m n c.masks_of-masks.ensures c.block_length-n.ensures (omega arith)
