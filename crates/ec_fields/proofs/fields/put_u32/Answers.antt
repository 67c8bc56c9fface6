use Rattle.byteorder.specs.Endian.{little_bytes}
use Rattle.ec_fields.proofs.Puts.{put_rest}
use Rattle.ec_fields.proofs.fields.put_u32.Goals as goal

pub returns : goal.returns
returns c =
    put_rest 4 c.args.at c.args.bytes.now (little_bytes 4 c.args.value) c.write_u32.new.buf c.requires c.write_u32.ensures
