-- The one application of a slave, and what each protocol sees of it.
use Rattle.std.specs.Prelude.{◌≡◌, ℕ, ◌+◌, ◌*◌, ◌-◌, ◌/◌, ◌%◌, ◌&&◌, nat_lt, Bool, if◌then◌else◌, List, map, Some, None, Result, Ok, Err}
use Rattle.protocol_models.specs.of_eoe.declared.message.Eoe.TheVariants.{Fragment as Part}
use Rattle.protocol_models.specs.of_eoe.declared.message.Fragment.{Fragment}
use Rattle.protocol_models.specs.of_eoe.Cutting.{fragments_of}
use Rattle.protocol_models.specs.of_eoe.Message.{eoe_text}
use Rattle.protocol_models.specs.Tables as Tables
use Rattle.protocol_models.specs.CoeOctets.{AreSpelled}
use Rattle.protocol_models.specs.Files as Files
use Rattle.protocol_models.specs.Elements as Elements
use Rattle.protocol_models.specs.Network as Network
use Rattle.protocol_models.specs.Network.{Station}
use Rattle.protocol_models.specs.Echo.{echo_of}
use Rattle.slave_model.specs.Profile.{Profile}

-- What the services act on. T: an object dictionary; F: files; I: a table of IDNs. A station has besides the frame number of the next packet.
pub record Core (T F I : Type 0) : Type 0 where
  pub objects : T
  pub files : F
  pub idns : I
  pub block : List ℕ

-- what each of them does with whole values, in each AL state
pub record Parts (T F I : Type 0) : Type 0 where
  pub tables : ℕ → Tables.Tables T
  pub files : ℕ → Files.Files F
  pub elements : Elements.Elements I

-- what they owe
pub record ArePartsLawful {T F I : Type 0} (o : Parts T F I) : Type 0 where
  pub tables : (al : ℕ) → Tables.AreLawful (o.tables al)
  pub tables_spelled : (al : ℕ) → AreSpelled (o.tables al)
  pub tables_one : (al : ℕ) (t : T) → (o.tables al).valid t ≡ (o.tables 0).valid t
  pub files : (al : ℕ) → Files.AreLawful (o.files al)
  pub files_spelled : (al : ℕ) → Files.AreSpelled (o.files al)
  pub files_one : (al : ℕ) (f : F) → (o.files al).valid f ≡ (o.files 0).valid f
  pub elements : Elements.AreLawful o.elements

module _ {T F I : Type 0} (o : Parts T F I) where
  -- objects, files and IDNs of which the laws speak
  abbrev pub core_valid : Core T F I → Bool
  core_valid c = (o.tables 0).valid c.objects && ((o.files 0).valid c.files && o.elements.valid c.idns)

  -- the same, with a frame number of 4 bits
  abbrev pub station_valid : Station (Core T F I) → Bool
  station_valid s = core_valid s.app && nat_lt s.frame 16

-- a station with other objects
abbrev pub with_objects : {T F I : Type 0} → Station (Core T F I) → T → Station (Core T F I)
with_objects s objects = record s { app = record s.app { objects = objects } }

-- a download done, or refused by a code
abbrev pub stored : {T F I : Type 0} → Station (Core T F I) → Result T ℕ → Result (Station (Core T F I)) ℕ
stored s (Ok objects) = Ok (with_objects s objects)
stored s (Err code) = Err code

-- the bodies of the fragments of a packet, through a mailbox of this length
abbrev pub fragment_bodies : ℕ → List ℕ → ℕ → List (List ℕ)
fragment_bodies room octets frame = map (λ (f : Fragment). eoe_text (Part f)) (fragments_of octets (32 * ((room - 10) / 32)) frame)

-- the objects of a station as the tables of its CoE server: a packet that they emit has the station's frame number
abbrev pub station_tables : {T F I : Type 0} → Parts T F I → ℕ → ℕ → Tables.Tables (Station (Core T F I))
station_tables o room al = record {
  valid = station_valid o;
  check = λ s t size. (o.tables al).check s.app.objects t size;
  download = λ s t bytes. stored s ((o.tables al).download s.app.objects t bytes);
  upload = λ s t. (o.tables al).upload s.app.objects t;
  info = λ s a. (o.tables al).info s.app.objects a;
  packet = λ s octets. (record s { frame = (s.frame + 1) % 16 }, fragment_bodies room octets s.frame);
}

-- the files of a station as the files of its FoE server
abbrev pub station_files : {T F I : Type 0} → Parts T F I → ℕ → Files.Files (Station (Core T F I))
station_files o al = record {
  valid = station_valid o;
  allowed = λ s name pass write. (o.files al).allowed s.app.files name pass write;
  has_room = λ s size. (o.files al).has_room s.app.files size;
  put = λ s name bytes. record s { app = record s.app { files = (o.files al).put s.app.files name bytes } };
  get = λ s name. (o.files al).get s.app.files name;
  busy = λ s name. (o.files al).busy s.app.files name;
}

-- an IDN written, or refused by a code
abbrev pub written : {T F I : Type 0} → Station (Core T F I) → Result I ℕ → Result (Station (Core T F I)) ℕ
written s (Ok idns) = Ok (record s { app = record s.app { idns = idns } })
written s (Err code) = Err code

-- the IDNs of a station as the table of its SoE server
abbrev pub station_elements : {T F I : Type 0} → Parts T F I → Elements.Elements (Station (Core T F I))
station_elements o = record {
  valid = station_valid o;
  read = λ s t. o.elements.read s.app.idns t;
  write = λ s t bytes. written s (o.elements.write s.app.idns t bytes);
}

-- a slave as the network behind its EoE server: it sends reflections, and its addresses may be fixed
abbrev pub network : {T F I : Type 0} → Parts T F I → Profile → Network.Network (Core T F I)
network o p = record {
  valid = core_valid o;
  packet = λ c octets. (c, echo_of p.mac octets);
  set_ip = λ c block. if p.fixed_ip then None else Some (record c { block = block });
  block = λ c. c.block;
}
