use Rattle.std.proofs.Common.{refl}
use Rattle.plan_ring.proofs.server_lives.real_whole_law.Goals as goal

pub returns : goal.returns
returns c = λ p profile boot lens plan spot is station start.
    let law = c.slave_is_lawful.ensures.lawful p profile in
    record {
      whole = record {
        behind = c.real_server_law.ensures.behind p boot lens;
        none = law.none;
        stated = c.slave_is_lawful.ensures.stated p profile;
        tells = λ state v. refl;
        clears = c.real_server_law.ensures.clears p boot lens;
        plan = is;
        station = station;
        start = start;
      };
      lawful = law;
    }
