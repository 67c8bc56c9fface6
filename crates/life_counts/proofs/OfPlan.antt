-- What the frame bound counts for a service of a plan.
use Rattle.std.proofs.Common.{◌≡◌, ℕ, ◌+◌, ◌-◌, ◌*◌, ◌/◌, ◌≤◌, ◌&&◌, ◌||◌, ◌==◌, nat_lt, nat_le, Bool, true, false, not, List, [], length, Some, None, refl, subst, arith, if◌then◌else◌}
use Rattle.std.proofs.Math.Nat.{div-eq-sub-div}
use Rattle.master_hand.specs.of_eoe.Cutting.{blocks_of}
use Rattle.master_hand.specs.of_exchange_model.Areas.{AreMailboxes}
use Rattle.master_hand.specs.of_object_dictionary.declared.service.SdoService.{SdoService}
use Rattle.master_hand.specs.of_object_dictionary.declared.service.SdoService.TheVariants.{Download, Upload, DownloadAll, UploadAll, List as ObjectList, ObjectInfo, EntryInfo}
use Rattle.master_hand.specs.of_protocol_models.CoeServer.{emergency, packet}
use Rattle.master_hand.specs.of_coe_client.Talk.{service_view}
use Rattle.master_hand.specs.of_protocol_models.FoeMeaning as FoeMeaning
use Rattle.master_hand.specs.of_protocol_models.SoeClient as SoeClient
use Rattle.master_hand.specs.of_protocol_models.Elements.{target}
use Rattle.master_hand.specs.of_protocol_models.EoeClient as EoeClient
use Rattle.master_hand.specs.Spoken.{Asked, sdo, file, drive, net}
use Rattle.master_hand.specs.Talk.{asked_of}
use Rattle.master_hand.specs.of_segment_plan.declared.slave.SlaveSpec.{SlaveSpec}
use Rattle.master_hand.specs.of_segment_plan.declared.service.Service as Plan
use Rattle.master_hand.specs.of_segment_plan.declared.service.Service.TheVariants.{Sdo, ReadFile, WriteFile, ReadIdn, WriteIdn, SetIp, GetIp, State, Forward}
use Rattle.master_hand.specs.of_segment_plan.Bound.{mails_of, entry_most, work_of}
use Rattle.master_hand.specs.of_segment_plan.Sound.{IsSlave, IsService}
use Rattle.few_replies.specs.of_slave_model.Profile.{areas_of}
use Rattle.slave_server.specs.Spec.{files_of, core_of, profile_of}
use Rattle.few_replies.specs.Counts.{third, mails_within}
use Rattle.few_replies.proofs.Thirds.{fits}
use Rattle.few_replies.specs.Shapes.{Shape, shape_of, emission_mails}
use Rattle.few_replies.proofs.OfShape.{mails_less}
use Rattle.life_counts.specs.Asked.{asked_most}
use Rattle.life_counts.specs.Split.{own_work, entering, split_work}
use Rattle.life_counts.proofs.Entries.{plan_entry}
use Rattle.life_counts.proofs.Filed.{files_blocks, plan_file_busy}

some_same : (a b : Asked) → Some a ≡ Some b → a ≡ b
some_same a b e = cc

module _ (s : SlaveSpec) (is : IsSlave s) where
  abbrev k : Shape
  k = shape_of (core_of s)

  sized : AreMailboxes (areas_of (profile_of s))
  sized = record { out_least = is.out_least; out_most = is.out_most; back_least = is.in_least; back_most = is.in_most }

  -- the bound has four mails to spare
  enough : (a b : ℕ) → a ≤ b → mails_within (areas_of (profile_of s)) a + 4 ≤ mails_of s b
  enough a b less = omega (arith, mails_less (areas_of (profile_of s)) sized a b less)

  -- also for the number of entries ahead of a whole object
  whole_enough : mails_within (areas_of (profile_of s)) 16002 ≤ mails_of s 16000
  whole_enough =
      let f = fits (areas_of (profile_of s)) sized in
      let w = third (areas_of (profile_of s)) in
      let wide : w ≤ 16002 = omega (arith, f.out, is.out_most) in
      let one : 16002 / w ≡ (16002 - w) / w + 1 = div-eq-sub-div f.some wide in
      let two : 2 ≤ w = omega (arith, least (nat_le s.out_len s.in_len)) in
      let less = mails_less (areas_of (profile_of s)) sized (16002 - w) 16000 (omega arith) in
      omega (arith, one, less)
    where
      least : (b : Bool) → 64 ≤ (if b then s.out_len else s.in_len)
      least true = is.out_least
      least false = is.in_least

  download_within : (index sub : ℕ) (bytes : List ℕ) → asked_most (profile_of s) k (sdo (service_view (Download index sub bytes))) ≤ own_work s (Sdo (Download index sub bytes)) + entering (Sdo (Download index sub bytes))
  download_within index sub bytes = omega (arith, enough (length bytes) (length bytes) (omega arith), by (sub == 1) (index == 0x2F00) s.eoe (index == 0x2F01))
    where
      by : (a b c d : Bool) →
          emission_mails (if false || not a then None else if b then Some (emergency bytes) else if c && d then Some (packet bytes) else None) ≤ 4 + (if d && a then blocks_of (length bytes) else 0)
      by false b c d = omega arith
      by true true c d = omega arith
      by true false true true = omega arith
      by true false true false = omega arith
      by true false false d = omega arith

  upload_within : (index sub : ℕ) → asked_most (profile_of s) k (sdo (service_view (Upload index sub))) ≤ own_work s (Sdo (Upload index sub)) + entering (Sdo (Upload index sub))
  upload_within index sub = by s.«coe» refl
    where
      by : (b : Bool) → s.«coe» ≡ b → mails_within (areas_of (profile_of s)) (if b then k.entry index sub else 0) + 0 ≤ mails_of s (entry_most s index sub) + 0
      by true e = omega (arith, enough (k.entry index sub) (entry_most s index sub) (plan_entry s is e index sub))
      by false e = omega (arith, enough 0 (entry_most s index sub) (omega arith))

  whole_within : (index from : ℕ) → asked_most (profile_of s) k (sdo (service_view (UploadAll index from))) ≤ own_work s (Sdo (UploadAll index from)) + entering (Sdo (UploadAll index from))
  whole_within index from = by s.«coe»
    where
      by : (b : Bool) → mails_within (areas_of (profile_of s)) (if b then 16002 else 0) + 0 ≤ mails_of s 16000 + 0
      by true = omega (arith, whole_enough)
      by false = omega (arith, enough 0 16000 (omega arith))

  sdo_within : (q : SdoService) → asked_most (profile_of s) k (sdo (service_view q)) ≤ own_work s (Sdo q) + entering (Sdo q)
  sdo_within (Download index sub bytes) = download_within index sub bytes
  sdo_within (Upload index sub) = upload_within index sub
  sdo_within (DownloadAll index from bytes) = omega (arith, enough (length bytes) (length bytes) (omega arith))
  sdo_within (UploadAll index from) = whole_within index from
  sdo_within (ObjectList kind) = omega (arith, enough 1024 1024 (omega arith))
  sdo_within (ObjectInfo index) = omega (arith, enough 64 64 (omega arith))
  sdo_within (EntryInfo index sub info) = omega (arith, enough 64 64 (omega arith))

pub plan_within : (room : ℕ) (s : SlaveSpec) (service : Plan.Service) (q : Asked) → IsSlave s → IsService service → asked_of room service ≡ Some q → asked_most (profile_of s) (shape_of (core_of s)) q ≤ own_work s service + entering service
plan_within room s (Sdo service) q is sound e =
    subst (λ a. asked_most (profile_of s) (shape_of (core_of s)) a ≤ own_work s (Sdo service) + entering (Sdo service)) (some_same (sdo (service_view service)) q e) (sdo_within s is service)
plan_within room s (ReadFile name pass) q is sound e =
    subst (λ a. asked_most (profile_of s) (shape_of (core_of s)) a ≤ own_work s (ReadFile name pass) + entering (ReadFile name pass)) (some_same (file (FoeMeaning.read name.items pass)) q e)
    (let blocks : (files_of s).blocks ≡ s.blocks = files_blocks s.files (record { files = []; blocks = s.blocks }) in
    omega (arith, enough s is (128 * (files_of s).blocks) (128 * s.blocks) (omega (arith, blocks))))
plan_within room s (WriteFile name pass bytes) q is sound e =
    subst (λ a. asked_most (profile_of s) (shape_of (core_of s)) a ≤ own_work s (WriteFile name pass bytes) + entering (WriteFile name pass bytes)) (some_same (file (FoeMeaning.write name.items pass bytes)) q e)
    (omega (arith, enough s is (length bytes) (length bytes) (omega arith), plan_file_busy s name.items))
plan_within room s (ReadIdn number idn elements) q is sound e =
    subst (λ a. asked_most (profile_of s) (shape_of (core_of s)) a ≤ own_work s (ReadIdn number idn elements) + entering (ReadIdn number idn elements)) (some_same (drive (SoeClient.read (target number idn elements))) q e) (omega (arith, enough s is 4096 4096 (omega arith)))
plan_within room s (WriteIdn number idn elements bytes) q is sound e =
    subst (λ a. asked_most (profile_of s) (shape_of (core_of s)) a ≤ own_work s (WriteIdn number idn elements bytes) + entering (WriteIdn number idn elements bytes)) (some_same (drive (SoeClient.write (target number idn elements) bytes)) q e)
    (omega (arith, enough s is (length bytes) (length bytes) (omega arith)))
plan_within room s (SetIp block) q is sound e = by (nat_lt room (length block + 10)) e
  where
    by : (b : Bool) → (if b then None else Some (net (EoeClient.set_ip block))) ≡ Some q → asked_most (profile_of s) (shape_of (core_of s)) q ≤ mails_of s 64 + 0
    by true e = absurd (cc)
    by false e = subst (λ a. asked_most (profile_of s) (shape_of (core_of s)) a ≤ mails_of s 64 + 0) (some_same (net (EoeClient.set_ip block)) q e) (omega arith)
plan_within room s GetIp q is sound e =
    subst (λ a. asked_most (profile_of s) (shape_of (core_of s)) a ≤ own_work s GetIp + entering GetIp) (some_same (net EoeClient.get_ip) q e) (omega arith)
plan_within room s (State to) q is sound e = absurd (cc)
plan_within room s (Forward p) q is sound e = absurd sound

-- A PACKET APART: what the bound counts is a service's own, and each fragment with what it leads to
pub work_split : (slaves : ℕ) (s : SlaveSpec) (service : Plan.Service) → work_of slaves s service ≡ split_work slaves s service
work_split n s (Sdo (Download index sub bytes)) = by (index == 0x2F01 && sub == 1)
  where
    by : (b : Bool) → mails_of s (length bytes) + (if b then blocks_of (length bytes) * ((n + 1) * (n + 1)) else 0) ≡ mails_of s (length bytes) + (if b then blocks_of (length bytes) else 0) * ((n + 1) * (n + 1))
    by true = refl
    by false = omega arith
work_split n s (Sdo (Upload index sub)) = omega arith
work_split n s (Sdo (DownloadAll index from bytes)) = omega arith
work_split n s (Sdo (UploadAll index from)) = omega arith
work_split n s (Sdo (ObjectList kind)) = omega arith
work_split n s (Sdo (ObjectInfo index)) = omega arith
work_split n s (Sdo (EntryInfo index sub info)) = omega arith
work_split n s (ReadFile name pass) = omega arith
work_split n s (WriteFile name pass bytes) = omega arith
work_split n s (ReadIdn number idn elements) = omega arith
work_split n s (WriteIdn number idn elements bytes) = omega arith
work_split n s (SetIp block) = omega arith
work_split n s GetIp = omega arith
work_split n s (State to) = omega arith
work_split n s (Forward p) = omega arith
