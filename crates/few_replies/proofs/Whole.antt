-- What services count at a slave of a plan with whatever transfers unfinished, and what it tells.
use Rattle.std.proofs.Common.{◌≡◌, ◌≤◌, true, sym, ap, ◌∙◌, subst, arith, refl}
use Rattle.slave_parts.specs.of_object_dictionary.Dictionary.{Table}
use Rattle.slave_parts.specs.of_object_dictionary.Sound.{is_table}
use Rattle.slave_parts.specs.of_protocol_models.CoeModel.{value_length}
use Rattle.slave_parts.specs.of_protocol_models.Tables.{Ask, list, object, entry}
use Rattle.slave_parts.specs.of_coe_server.ObjectTables.{tells}
use Rattle.slave_parts.specs.of_exchange_model.Exchange.{IsLawful}
use Rattle.few_replies.specs.Most.{Tells}
use Rattle.slave_parts.specs.FoeServed.{has_its_room}
use Rattle.few_replies.specs.RowCounts.{AreCounted}
use Rattle.few_replies.specs.Calm.{IsCalm, KeepsPassed, calm_tagged, asked_count}
use Rattle.few_replies.proofs.Calms.{calm_lawful, calm_counted}
use Rattle.few_replies.specs.Shapes.{ask_octets, shape_at, shape_most}
use Rattle.few_replies.proofs.OfShape.{counted}
use Rattle.few_replies.proofs.Sizes.{told_within, element_within}
use Rattle.slave_parts.specs.of_serving_model.Tagged.{ideal}
use Rattle.few_replies.specs.Packets.{is_calm, is_fair}
use Rattle.few_replies.proofs.Slave.{calm_slave, smaller}
use Rattle.slave_parts.specs.of_slave_model.Application.{ArePartsLawful, station_valid, station_files}
use Rattle.slave_parts.specs.of_slave_model.Profile.{Profile, IsProfile}
use Rattle.slave_parts.proofs.of_slave_model.Stations.{both, left_of}
use Rattle.slave_parts.specs.Parts.{Server, parts}
use Rattle.slave_parts.specs.Served.{product_whole, AreFilesServed}
use Rattle.slave_parts.proofs.Sides.{side_speech}
use Rattle.slave_parts.proofs.SlaveLaw.{product_served}
use Rattle.slave_parts.specs.of_state_model.Families.{InState}
use Rattle.few_replies.proofs.Alone.{alone, product_many}
use Rattle.few_replies.proofs.Shaped.{mail_stays, exec_stays}

-- ---- what it tells
ask_most : (a : Ask) → ask_octets a ≤ 1024
ask_most (list kind) = omega arith
ask_most (object index) = omega arith
ask_most (entry index sub info) = omega arith

told_most : (table : Table) (a : Ask) → is_table table ≡ true → value_length (tells table a) ≤ 1024
told_most table a sound = omega (arith, told_within table a sound, ask_most a)

pub parts_tell : Tells parts 1024 4096
parts_tell = record {
  objects = λ al t a valid. told_most t a valid;
  idns = λ i t valid. element_within i t valid;
}

pub parts_calm : ArePartsLawful parts → (p : Profile) → IsProfile p → IsCalm (product_whole parts p) is_calm is_fair 76
parts_calm law p is = calm_slave parts p 1024 4096 76 law is parts_tell (smaller p is)

-- ---- what its services count
pub whole_counted : ArePartsLawful parts → AreFilesServed parts → (p : Profile) → IsProfile p → AreCounted (product_whole parts p) shape_at (λ k q. shape_most p k q.0 q.1)
whole_counted law files p is = record {
  within = λ v q ready valid.
      let sound = left_of (station_valid parts v.inner.app) (has_its_room (station_files parts 0) v.inner.app v.inner.file) ready in
      let there = ap (λ s. s.valid q.1) (sym (side_speech parts p 0 q.0)) ∙ valid in
      subst (λ n. n ≤ shape_most p (shape_at v) q.0 q.1) (sym (product_many parts law files p is v q ready valid))
      ((counted law p is).within (record v { inner = alone v.inner }) q (both (station_valid parts v.inner.app) true sound refl) there);
  stays = λ v q ready valid. ap shape_at ((product_served parts law files p is).whole v q ready valid) ∙ exec_stays p v.state v.inner q.0 q.1;
}

pub whole_kept : (p : Profile) → KeepsPassed (product_whole parts p) is_calm is_fair shape_at
whole_kept p = λ v b ready calm fair. mail_stays p v.state v.inner b

-- ---- services and mails that are passed on
module _ (law : ArePartsLawful parts) (files : AreFilesServed parts) (p : Profile) (is : IsProfile p) where
  pub passed_lawful : IsLawful (calm_tagged (product_whole parts p) is_calm is_fair)
  passed_lawful = calm_lawful (product_whole parts p) (λ (v : InState Server). v.inner.app) (product_served parts law files p is) is_calm is_fair 76 (parts_calm law p is)

  pub passed_counted : AreCounted (calm_tagged (product_whole parts p) is_calm is_fair) (λ w. shape_at (ideal (product_whole parts p) w)) (asked_count (λ k q. shape_most p k q.0 q.1) 76)
  passed_counted = calm_counted (product_whole parts p) (λ (v : InState Server). v.inner.app) (product_served parts law files p is) is_calm is_fair 76 (parts_calm law p is) shape_at (λ k q. shape_most p k q.0 q.1) (whole_kept p) (whole_counted law files p is)
