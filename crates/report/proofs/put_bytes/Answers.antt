-- `report::put_bytes` copies a text into the part of the buffer that it fills.
use Rattle.report.proofs.PutLaws.{put_copied}
use Rattle.report.proofs.put_bytes.Goals as goal

pub returns : goal.returns
returns c = rw c.copy_from_slice.ensures.after (put_copied c.args.out.now c.args.at c.args.text.now c.requires)
