use Rattle.std.proofs.Common.{arith}
use Rattle.object_dictionary.proofs.Kept.{object_stored_at}
use Rattle.object_dictionary.proofs.object.Object.download.Goals as goal

pub returns : goal.returns
returns c =
    object_stored_at c.args.al c.args.self.now c.args.sub c.args.bytes.now c.at_mut.result.now c.download.new.self c.download.result c.place_of-place.result
    (cc) c.place_of-place.ensures (omega (arith, c.len.ensures)) c.at_mut.ensures.value c.download.ensures
