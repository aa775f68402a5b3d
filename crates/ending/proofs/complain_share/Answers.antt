-- `ending::complain_share` meets its contract: what is written is what the tally's text says.
use Rattle.std.proofs.Common.{◌∙◌}
use Rattle.texts.proofs.Held.{held_text}
use Rattle.tally.specs.Tally.{share_size, share_text}
use Rattle.ending.proofs.complain_share.Goals as goal

pub write_share-requires : goal.write_share-requires
write_share-requires g c =
    let w = c.args.watch in
    c.as_bytes.ensures ∙ held_text share_size (share_text w.mended w.mended_lines w.lines) c.share_of.ensures.value
