-- What a slave's plain keys say, without its lists.
use Rattle.std.specs.Prelude.{◌≡◌, ℕ, [], length, codes, Result, Ok}
use Rattle.toml.specs.Data.{Members}
use Rattle.scenario_values.specs.of_segment_plan.declared.slave.SlaveSpec.{SlaveSpec}
use Rattle.scenario_values.specs.of_scenario_keys.declared.place.Place.{Place}
use Rattle.scenario_values.specs.of_scenario_keys.declared.refusal.Refusal.{Refusal}
use Rattle.scenario_values.specs.of_scenario_keys.Reading.{◌>>=◌}
use Rattle.scenario_values.specs.of_scenario_keys.Keys.{integer_at, integer_or, pair_at, bool_at, name_at}
use Rattle.scenario_slaves.specs.Protocols.{serves_at}
use Rattle.scenario_slaves.specs.Settings.{start_at, mac_at, pace_at}

-- a slave with a MAC address of 6 octets, which are 0 where it doesn't serve EoE
abbrev pub HasMac : SlaveSpec → Type 0
HasMac s = length s.mac ≡ 6

-- what a slave's plain keys say, without its lists
unfoldable pub plain_slave_of : ℕ → Place → Members → Result SlaveSpec Refusal
plain_slave_of version place ms = do
  name ← name_at (codes "name") place ms
  station ← integer_at (codes "station") 1 0xFFFF place ms
  _ ← pace_at version place ms
  mail ← pair_at (codes "mail") 64 1486 place ms
  served ← serves_at place ms
  boot ← bool_at (codes "boot") place ms
  start ← start_at boot place ms
  blocks ← integer_or (codes "blocks") 64 1 1024 place ms
  mac ← mac_at served.eoe place ms
  fixed_ip ← bool_at (codes "fixed_ip") place ms
  Ok (record {
    name = name;
    station = station;
    out_len = mail.0;
    in_len = mail.1;
    «coe» = served.«coe»;
    foe = served.foe;
    eoe = served.eoe;
    soe = served.soe;
    boot = boot;
    start = start;
    blocks = blocks;
    mac = mac;
    fixed_ip = fixed_ip;
    objects = [];
    files = [];
    idns = [];
  })
