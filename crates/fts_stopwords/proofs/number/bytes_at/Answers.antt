use Rattle.fts_stopwords.proofs.Numbers.{byte_is_read}
use Rattle.fts_stopwords.proofs.number.bytes_at.Goals as goal

pub returns : goal.returns
returns c = byte_is_read c.args.text.now c.args.from _ c.requires c.type_inv.text c.from_le_bytes.ensures
