use Rattle.slave_server.specs.Serving.{Inside}
use Rattle.slave_server.proofs.Next.{ether_waits}
use Rattle.slave_server.proofs.server.SlaveServer.has_mail.Goals as goal

pub returns-then-waiting-4 : goal.returns-then-waiting-4
returns-then-waiting-4 c =
    let i = c.self.inside in
    let s : Inside = record {
      out = i.lengths.out_len;
      back = i.lengths.in_len;
      has_coe = i.protocols.has_coe;
      has_foe = i.protocols.has_foe;
      has_soe = i.protocols.has_soe;
      has_eoe = i.protocols.has_eoe;
      objects = i.objects;
      store = i.store;
      idns = i.idns;
      addresses = i.addresses;
      sdo = i.sdo;
      file = i.file;
      drive = i.drive;
      ether = i.ether;
      failure = i.failure;
      handled = i.handled;
    } in
    ether_waits s _ c.self.view_is (λ block none. (c.if-waiting-4.ensures block).1 none)
