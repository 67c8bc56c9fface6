-- EoE owes the laws of an exchange and keeps them: for every packet and address block, through mailboxes of any lengths, and from a server
-- with any unfinished packet.
use Rattle.std.proofs.Common.{◌≡◌, ◌≢◌, ◌⊎◌, inl, inr, ℕ, suc, ◌≤◌, Bool, true, false, not, List, [], ◌∷◌, ◌++◌, map, filter, length, Option, None, Some, refl, sym, ap, ◌∙◌, subst, arith, append-nil, ◌&&◌, ◌-◌, ◌*◌, ◌/◌, nat_le, nat_lt, leb-true, ltb-true, lt-ltb, ◌<◌, ◌+◌, ◌%◌}
use Rattle.std.specs.Prelude.{if◌then◌else◌}
use Rattle.eoe.specs.Address.{is_block}
use Rattle.eoe.specs.declared.message.Fragment.{Fragment}
use Rattle.eoe.specs.Cutting.{fragments_of}
use Rattle.eoe.proofs.Whole.{every_area_gives_the_packet}
use Rattle.exchange_model.specs.Areas.{Areas, AreMailboxes}
use Rattle.exchange_model.specs.Exchange.{IsLawful, Before, Behind, after, given, plain, emitted}
use Rattle.exchange_model.proofs.Lists.{prefix_refl}
use Rattle.protocol_models.specs.EoeMails.{EoeMail, mail, SetIpAnswer, GetIpAnswer, part, is_emission}
use Rattle.protocol_models.specs.Network.{Network, IsSound, Station, is_ready}
use Rattle.protocol_models.specs.EoeServer.{Server, sends, delivered, addressed, set_answer, behind, eoe_outcome, serve, one_more}
use Rattle.protocol_models.specs.EoeClient.{Service, packet, set_ip, get_ip, is_service, is_handed, mails_of, Reply, set_means, meaning_of, ends}
use Rattle.protocol_models.specs.EoeModel.{eoe_exchange}
use Rattle.protocol_models.proofs.Packets.{Idle, Carried, carried_one, delivers}

-- the fragments that a server sends are emissions
fragments_emitted : (fs : List Fragment) → filter is_emission (map part fs) ≡ map part fs
fragments_emitted [] = refl
fragments_emitted (f ∷ fs) = ap (λ l. part f ∷ l) (fragments_emitted fs)

fragments_plain : (fs : List Fragment) → filter (λ m. not (is_emission m)) (map part fs) ≡ []
fragments_plain [] = refl
fragments_plain (f ∷ fs) = fragments_plain fs

module _ {S : Type 0} (room frame : ℕ) where
  sends_emitted : (r : S × Option (List ℕ)) → emitted is_emission (sends room frame r).1 ≡ (sends room frame r).1
  sends_emitted (app, None) = refl
  sends_emitted (app, Some octets) = fragments_emitted (fragments_of octets (32 * ((room - 10) / 32)) frame)

  sends_plain : (r : S × Option (List ℕ)) → plain is_emission (sends room frame r).1 ≡ []
  sends_plain (app, None) = refl
  sends_plain (app, Some octets) = fragments_plain (fragments_of octets (32 * ((room - 10) / 32)) frame)

-- a state of which the laws speak, with a frame number of 4 bits
pub both_are : (a b : Bool) → (a && b) ≡ true → (a ≡ true) × (b ≡ true)
both_are true b e = (refl, e)
both_are false b e = absurd (cc)

ready_from : {S : Type 0} (o : Network S) (app : S) (frame : ℕ) → o.valid app ≡ true → frame < 16 → is_ready o (record { app = app; frame = frame }) ≡ true
ready_from o app frame fine few = let short = lt-ltb frame 16 few in rw (fine, short) refl

sends_ready : {S : Type 0} (o : Network S) (room frame : ℕ) (r : S × Option (List ℕ)) → o.valid r.0 ≡ true → frame < 16 → is_ready o (sends room frame r).0 ≡ true
sends_ready o room frame (app, None) fine few = ready_from o app frame fine few
sends_ready o room frame (app, Some octets) fine few = ready_from o app ((frame + 1) % 16) fine (omega arith)

-- a service with one mail and one answer
ends_none : (q : Service) → ends q [] ≡ None
ends_none (packet octets frame) = refl
ends_none (set_ip block) = refl
ends_none get_ip = refl

closed : (q : Service) (hs : List EoeMail) (h : EoeMail) (more : List EoeMail) (r : Reply) → ends q hs ≡ Some r → ends q (hs ++ h ∷ more) ≡ None
closed (packet octets frame) hs h more r e = absurd (cc)
closed (set_ip block) [] h more r e = absurd (cc)
closed (set_ip block) (m ∷ []) h more r e = refl
closed (set_ip block) (m ∷ k ∷ ms) h more r e = absurd (cc)
closed get_ip [] h more r e = absurd (cc)
closed get_ip (m ∷ []) h more r e = refl
closed get_ip (m ∷ k ∷ ms) h more r e = absurd (cc)

unanswered : (q : Service) (hs : List EoeMail) → is_handed q ≡ true → ends q hs ≡ None
unanswered (packet octets frame) hs posts = refl
unanswered (set_ip block) hs posts = absurd (cc)
unanswered get_ip hs posts = absurd (cc)

module _ {S : Type 0} (o : Network S) (sound : IsSound o) (areas : Areas) (sized : AreMailboxes areas) where
  -- what the server gives for all mails of a service: its emissions, or its answer
  abbrev pub answer_to_set : Option S → List EoeMail
  answer_to_set (Some app) = mail (SetIpAnswer 0) ∷ []
  answer_to_set None = mail (SetIpAnswer 1) ∷ []

  abbrev pub gives : Server S → Service → List EoeMail
  gives v (packet octets frame) = (delivered o areas.back v.station octets).1
  gives v (set_ip block) = answer_to_set (addressed o areas.back v.station.app block)
  gives v get_ip = mail (GetIpAnswer 0 (record { items = o.block v.station.app })) ∷ []

  set_carried : (v : Server S) (block : List ℕ) (r : Option S) → addressed o areas.back v.station.app block ≡ r →
      Carried o areas.back v (mails_of areas.out (set_ip block)) (set_means v.station r).station (answer_to_set r)
  set_carried v block (Some app) is = carried_one o areas.back v _ _ _ (ap (λ r. behind v.handled (set_answer v.station v.unfinished r)) is) refl
  set_carried v block None is = carried_one o areas.back v _ _ _ (ap (λ r. behind v.handled (set_answer v.station v.unfinished r)) is) refl

  -- the bounds of a packet
  pub both : (a b c : Bool) → (a && b && c) ≡ true → (a ≡ true) × (b ≡ true)
  both true true c e = (refl, refl)
  both true false c e = absurd (cc)
  both false b c e = absurd (cc)

  pub kept : (v : Server S) (q : Service) → is_service q ≡ true → Carried o areas.back v (mails_of areas.out q) (meaning_of o areas.back v.station q).station (gives v q)
  kept v (packet octets frame) valid =
      let sizes = both (nat_le 14 (length octets)) (nat_le (length octets) 1514) (nat_lt frame 16) valid in
      delivers o areas.back v octets (fragments_of octets (32 * ((areas.out - 10) / 32)) frame)
      (every_area_gives_the_packet v.unfinished octets areas.out frame (leb-true _ _ sizes.0) (leb-true _ _ sizes.1) sized.out_least)
  kept v (set_ip block) valid = set_carried v block (addressed o areas.back v.station.app block) refl
  kept v get_ip valid = carried_one o areas.back v _ _ _ refl refl

  set_emitted : (station : Station S) (r : Option S) → emitted is_emission (answer_to_set r) ≡ (set_means station r).emits
  set_emitted station (Some app) = refl
  set_emitted station None = refl

  gives_emitted : (v : Server S) (q : Service) → emitted is_emission (gives v q) ≡ (meaning_of o areas.back v.station q).emits
  gives_emitted v (packet octets frame) = sends_emitted areas.back v.station.frame (o.packet v.station.app octets)
  gives_emitted v (set_ip block) = set_emitted v.station (addressed o areas.back v.station.app block)
  gives_emitted v get_ip = refl

  gives_plain : (v : Server S) (q : Service) → is_handed q ≡ true → plain is_emission (gives v q) ≡ []
  gives_plain v (packet octets frame) posts = sends_plain areas.back v.station.frame (o.packet v.station.app octets)
  gives_plain v (set_ip block) posts = absurd (cc)
  gives_plain v get_ip posts = absurd (cc)

  set_replied : (station : Station S) (block : List ℕ) (r : Option S) → ends (set_ip block) (plain is_emission (answer_to_set r)) ≡ Some (set_means station r).reply
  set_replied station block (Some app) = refl
  set_replied station block None = refl

  gives_reply : (v : Server S) (q : Service) → is_handed q ≡ false → ends q (plain is_emission (gives v q)) ≡ Some (meaning_of o areas.back v.station q).reply
  gives_reply v (packet octets frame) answers = absurd (cc)
  gives_reply v (set_ip block) answers = set_replied v.station block (addressed o areas.back v.station.app block)
  gives_reply v get_ip answers = refl

  whole_emitted : (v : Server S) (q : Service) → is_service q ≡ true →
      emitted is_emission (given (serve o areas.back) v (mails_of areas.out q)) ≡ (meaning_of o areas.back v.station q).emits
  whole_emitted v q valid = ap (emitted is_emission) (kept v q valid).given ∙ gives_emitted v q

  whole_replied : (v : Server S) (q : Service) → is_service q ≡ true → is_handed q ≡ false →
      ends q (plain is_emission (given (serve o areas.back) v (mails_of areas.out q))) ≡ Some (meaning_of o areas.back v.station q).reply
  whole_replied v q valid answers = ap (λ ms. ends q (plain is_emission ms)) (kept v q valid).given ∙ gives_reply v q answers

  whole : (v : Server S) (q : Service) → is_service q ≡ true → Behind (eoe_exchange o areas) v q (mails_of areas.out q)
  whole v q valid = record {
    app = (kept v q valid).station;
    handled = (kept v q valid).handled;
    emitted = ([], append-nil _ ∙ whole_emitted v q valid);
  }

  pub before : (v : Server S) (p : List EoeMail) → Idle o areas.back v p → Before (eoe_exchange o areas) v p
  before v p idle = record { app = idle.station; handled = idle.handled; emitted = ap (emitted is_emission) idle.given }

  part_of : (v : Server S) (q : Service) → is_service q ≡ true → (p r : List EoeMail) → mails_of areas.out q ≡ p ++ r →
      Before (eoe_exchange o areas) v p ⊎ Behind (eoe_exchange o areas) v q p
  part_of v q valid p [] e = inr (subst (Behind (eoe_exchange o areas) v q) (e ∙ append-nil p) (whole v q valid))
  part_of v q valid p (h ∷ r) e = inl (before v p ((kept v q valid).late p h r e))

  -- mails without effect bring no reply, so all replies come with the last mail
  counted : (v : Server S) (q : Service) → is_service q ≡ true → is_handed q ≡ false → (p r : List EoeMail) → mails_of areas.out q ≡ p ++ r →
      plain is_emission (given (serve o areas.back) v p) ≡ plain is_emission (given (serve o areas.back) v (mails_of areas.out q)) → Behind (eoe_exchange o areas) v q p
  counted v q valid answers p [] e same = subst (Behind (eoe_exchange o areas) v q) (e ∙ append-nil p) (whole v q valid)
  counted v q valid answers p (h ∷ r) e same = absurd (
      let nothing : ends q [] ≡ Some (meaning_of o areas.back v.station q).reply =
      ap (λ ms. ends q (plain is_emission ms)) (sym ((kept v q valid).late p h r e).given) ∙ ap (ends q) same ∙ whole_replied v q valid answers in
      let none = ends_none q in cc)

  -- a packet has a fragment: without a mail nothing would be carried out
  some : (v : Server S) (q : Service) → is_service q ≡ true → mails_of areas.out q ≢ []
  some v q valid none =
      let one : v.handled ≡ suc v.handled = ap (λ ms. (after (serve o areas.back) v ms).handled) (sym none) ∙ (kept v q valid).handled in omega (arith, one)

  -- a service leaves a state of which the laws speak
  set_ready : (station : Station S) (block : List ℕ) (b : Bool) (r : Option S) → is_ready o station ≡ true →
      (if b then o.set_ip station.app block else None) ≡ r → is_ready o (set_means station r).station ≡ true
  set_ready station block b None ready is = ready
  set_ready station block true (Some app) ready is =
      let now = both_are (o.valid station.app) (nat_lt station.frame 16) ready in
      ready_from o app station.frame (sound.set_ip station.app app block now.0 is) (ltb-true station.frame 16 now.1)
  set_ready station block false (Some app) ready is = absurd (cc)

  means_ready : (station : Station S) (q : Service) → is_ready o station ≡ true → is_ready o (meaning_of o areas.back station q).station ≡ true
  means_ready station (packet octets frame) ready =
      let now = both_are (o.valid station.app) (nat_lt station.frame 16) ready in
      sends_ready o areas.back station.frame (o.packet station.app octets) (sound.packet station.app octets now.0) (ltb-true station.frame 16 now.1)
  means_ready station (set_ip block) ready =
      set_ready station block (is_block block && nat_le (length block) (areas.back - 10)) (addressed o areas.back station.app block) ready refl
  means_ready station get_ip ready = ready

  grows : (b : Bool) (n : ℕ) → n ≤ one_more b n
  grows true n = omega arith
  grows false n = omega arith

  -- THE EXCHANGE LAW OF EoE
  pub eoe_law : IsLawful (eoe_exchange o areas)
  eoe_law = record {
    ready = λ v q ready valid. ap (is_ready o) (kept v q valid).station ∙ means_ready v.station q ready;
    whole = λ v q ready valid. whole v q valid;
    all_emitted = λ v q ready valid. whole_emitted v q valid;
    replied = λ v q ready valid answers. whole_replied v q valid answers;
    silent = λ v q ready valid posts. ap (plain is_emission) (kept v q valid).given ∙ gives_plain v q posts;
    part = λ v q ready valid p r e. part_of v q valid p r e;
    counted = λ v q ready valid answers p r e same. counted v q valid answers p r e same;
    none = ends_none;
    ended = closed;
    follows = λ v q ready valid hs more e. prefix_refl (mails_of areas.out q);
    all_planned = λ v q ready valid. refl;
    unanswered = unanswered;
    some = λ v q ready valid posts. some v q valid;
    grows = λ v m. grows (eoe_outcome o areas.back v.station v.unfinished m).counts v.handled;
  }
