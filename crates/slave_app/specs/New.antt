-- The application of a slave of a plan before any service.
use Rattle.std.specs.Prelude.{replicate, None}
use Rattle.slave_server.specs.of_segment_plan.declared.slave.SlaveSpec.{SlaveSpec}
use Rattle.slave_server.specs.Spec.{objects_of, files_of, idns_of}
use Rattle.slave_app.specs.declared.app.App.{App}

-- the profile's objects and the plan's, its files and its IDNs, an address block of four zero octets, the AL state of the start, and no service
abbrev pub app_of : SlaveSpec → App
app_of s = record {
  objects = objects_of s;
  files = record { kept = files_of s; part = None };
  idns = idns_of s;
  block = record { items = replicate 4 0 };
  mac = s.mac;
  «coe» = s.«coe»;
  foe = s.foe;
  eoe = s.eoe;
  soe = s.soe;
  boot = s.boot;
  fixed_ip = s.fixed_ip;
  al = s.start;
  handled = 0;
}
