-- The one exchange of a slave is calm.
use Rattle.std.proofs.Common.{◌≡◌, ℕ, zero, suc, ◌-◌, ◌*◌, ◌/◌, ◌≤◌, ◌<◌, not, Bool, true, false, List, length, Result, Ok, Err, refl, ap, ◌∙◌, arith}
use Rattle.std.proofs.lemmas.Nat.{le-div}
use Rattle.std.proofs.Math.Nat.{div-mul-le_self}
use Rattle.slave_parts.specs.of_protocol_models.CoeMeaning.{Service, download, upload, information}
use Rattle.slave_parts.specs.of_protocol_models.CoeModel.{value_length}
use Rattle.slave_parts.specs.of_protocol_models.CoeServer.{Transfer}
use Rattle.slave_parts.specs.CoeServed.{transfer_behind}
use Rattle.slave_parts.specs.FoeServed.{has_its_room}
use Rattle.slave_parts.specs.Whole.{gated_whole}
use Rattle.slave_parts.specs.of_slave_model.Application.{Parts, ArePartsLawful, station_valid, station_files}
use Rattle.slave_parts.specs.of_slave_model.Product.{refusal}
use Rattle.slave_parts.specs.of_slave_model.Profile.{Protocol, Profile, IsProfile, serves}
use Rattle.slave_parts.specs.of_slave_model.Server.{Server, seat, reseated, ServiceOf}
use Rattle.slave_parts.proofs.of_slave_model.Stations.{left_of}
use Rattle.slave_parts.specs.Served.{served_whole, side_whole, product_whole}
use Rattle.few_replies.specs.Most.{Tells, AreEnough, brings_packet, begins_packet}
use Rattle.few_replies.proofs.Few.{replies, frees, not_true}
use Rattle.few_replies.specs.Calm.{IsCalm}
use Rattle.few_replies.specs.Packets.{is_calm, is_fair}

-- a service of CoE leaves the transfer or none
behind_free : (transfer : Transfer) (q : Service) → brings_packet transfer ≡ false → brings_packet (transfer_behind transfer q) ≡ false
behind_free transfer (download t bytes) free = refl
behind_free transfer (upload t) free = refl
behind_free transfer (information a) free = free

module _ {T F I : Type 0} (o : Parts T F I) (p : Profile) where
  exec_free : (al : ℕ) (j : Server T F I) (i : Protocol) (q : ServiceOf i) → brings_packet j.sdo ≡ false → brings_packet (reseated i j ((side_whole o p al i).exec (seat i j) q)).sdo ≡ false
  exec_free al j Protocol.CoE q free = go (serves p al Protocol.CoE)
    where
      go : (on : Bool) → brings_packet ((gated_whole on (served_whole o p al Protocol.CoE) (refusal o p al Protocol.CoE)).exec (seat Protocol.CoE j) q).transfer ≡ false
      go true = behind_free j.sdo q free
      go false = free
  exec_free al j Protocol.FoE q free = free
  exec_free al j Protocol.SoE q free = free
  exec_free al j Protocol.EoE q free = free

  pub calm_slave : (tables element most : ℕ) → ArePartsLawful o → IsProfile p → Tells o tables element → AreEnough p tables element most → IsCalm (product_whole o p) is_calm is_fair most
  calm_slave tables element most law profile tells enough = record {
    few = λ v b ready calm fair.
        replies o p tables element most law profile tells enough v.state v.inner b (left_of (station_valid o v.inner.app) (has_its_room (station_files o 0) v.inner.app v.inner.file) ready) calm (not_true (begins_packet b) fair);
    passes = λ v b ready calm fair. frees o p v.state v.inner b calm (not_true (begins_packet b) fair);
    serves = λ v q ready valid calm. ap not (exec_free v.state v.inner q.0 q.1 (not_true (brings_packet v.inner.sdo) calm));
  }

-- a value that is short, or a refusal
value_short : (most : ℕ) (r : Result (List ℕ) ℕ) → ((bytes : List ℕ) → r ≡ Ok bytes → length bytes ≤ most) → value_length r ≤ most
value_short most (Ok bytes) short = short bytes refl
value_short most (Err code) short = omega arith

pub lawful_tells : {T F I : Type 0} (o : Parts T F I) → ArePartsLawful o → Tells o 16384 16384
lawful_tells o law = record {
  objects = λ al t a valid. value_short 16384 ((o.tables al).info t a) (λ bytes is. (law.tables al).short_info t a bytes (law.tables_one al t ∙ valid) is);
  idns = λ i t valid. value_short 16384 (o.elements.read i t) (λ bytes is. law.elements.short i t bytes valid is);
}

-- a longer mailbox takes no more
fewer : (w room n most : ℕ) → 0 < w → w ≤ room → suc (n / w) ≤ most → suc (n / room) ≤ most
fewer w room n most some wide few =
    let whole : n / room * room ≤ n = div-mul-le_self n room in
    let grown : n / room * w ≤ n / room * room = times (n / room) w room wide in
    let less : n / room ≤ n / w = le-div (n / room) n w some (omega (arith, whole, grown)) in
    omega (arith, less, few)
  where
    times : (k a b : ℕ) → a ≤ b → k * a ≤ k * b
    times zero a b le = omega arith
    times (suc k) a b le = omega (arith, times k a b le, le)

pub enough_for : (p : Profile) → IsProfile p → AreEnough p 16384 16384 316
enough_for p is = record {
  two = omega arith;
  parts = fewer 52 (p.back - 12) 16384 316 (omega arith) (omega (arith, is.back_least)) (omega arith);
  fragments = fewer 54 (p.back - 10) 16384 316 (omega arith) (omega (arith, is.back_least)) (omega arith);
  blocks = omega arith;
}

pub smaller : (p : Profile) → IsProfile p → AreEnough p 1024 4096 76
smaller p is = record {
  two = omega arith;
  parts = fewer 52 (p.back - 12) 1024 76 (omega arith) (omega (arith, is.back_least)) (omega arith);
  fragments = fewer 54 (p.back - 10) 4096 76 (omega arith) (omega (arith, is.back_least)) (omega arith);
  blocks = omega arith;
}
