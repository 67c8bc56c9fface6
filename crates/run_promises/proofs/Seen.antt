-- OF AN EPOCH THAT IS SEEN as a session the packets that were heard are of the services that came into hand in it.
use Rattle.std.proofs.Common.{◌≡◌, ℕ, zero, suc, ◌≤◌, ◌<◌, Bool, true, false, Option, None, List, [], ◌∷◌, ◌++◌, map, take, length, refl, sym, ap, ◌∙◌, arith}
use Rattle.std.specs.Prelude.{sum_by}
use Rattle.std.proofs.lemmas.List.Sums.{sum_by-cons}
use Rattle.packets_heard.specs.of_exchange_model.Exchange.{emitted}
use Rattle.packets_heard.specs.of_exchange_model.Lifted.{EachOf}
use Rattle.packets_heard.specs.of_exchange_model.Prefix.{IsPrefixOf}
use Rattle.packets_heard.specs.of_exchange_model.Rows.{emits_all}
use Rattle.served_rings.specs.of_few_replies.Calm.{IsCalm}
use Rattle.served_rings.specs.of_few_replies.Packets.{is_calm, is_fair}
use Rattle.served_rings.specs.of_life_counts.Seen.{service_seen, started_seen}
use Rattle.packets_heard.specs.of_life_model.Eras.{OpenEra, era_frames}
use Rattle.packets_heard.specs.of_life_model.Lives.{Spot, Era, Life}
use Rattle.served_rings.proofs.of_life_model.Eras.{of_one, session_of}
use Rattle.packets_heard.specs.of_link_mails.Body.{Body}
use Rattle.packets_heard.specs.of_master_duty.Reply as Master
use Rattle.packets_heard.specs.of_master_hand.Joins.{packets_in}
use Rattle.packets_heard.specs.of_master_hand.Spoken as Spoken
use Rattle.served_rings.specs.of_few_replies.Erased.{frame_as}
use Rattle.served_rings.proofs.of_few_replies.Naturals.{kept_of}
use Rattle.served_rings.proofs.HeardSeen.{emitted_untag, heard_as}
use Rattle.served_rings.specs.Speakers.{seer_of, table_of, whole_states}
use Rattle.served_rings.specs.of_run_work.Sessions.{InRow, Meant, Wanted, named_wanted}
use Rattle.packets_heard.specs.of_segment_model.Record.{Frame, Kept, heard, kept_after, kept_all, nothing_kept}
use Rattle.packets_heard.specs.of_segment_model.Slaves.{Registers, Slave}
use Rattle.run_promises.specs.Sends.{sends_most}
use Rattle.run_promises.proofs.Epochs.{Emit, Joins, few_heard, first_sum}
use Rattle.run_promises.proofs.Live.{IsLive}
use Rattle.run_promises.proofs.Times.{Weighs, weighs_on}
use Rattle.run_promises.proofs.Owns.{own_fragment}
use Rattle.run_promises.specs.Quiet.{is_quiet, quiet_speaker}
use Rattle.run_promises.proofs.Folds.{untag_append, PassedNone, all_send, both, wants_most}
use Rattle.run_promises.proofs.Valid.{era_valid}
use Rattle.served_rings.specs.of_serving_model.Tagged.{is_own, untag}
use Rattle.served_rings.specs.of_slave_model.Product.{emission}
use Rattle.served_rings.specs.of_slave_model.Profile.{Profile}
use Rattle.served_rings.specs.of_slave_model.Server.{Reply}
use Rattle.served_rings.proofs.of_slave_model.Stations.{left_of, right_of}
use Rattle.served_rings.specs.of_slave_parts.Parts.{Server, parts as real_parts}
use Rattle.served_rings.specs.of_slave_parts.Served.{product_whole}
use Rattle.packets_heard.specs.of_state_model.Families.{InState}
use Rattle.packets_heard.specs.of_state_model.Stated.{Service, mails, service_valid}
use Rattle.served_rings.specs.of_life_counts.Epochs.{IsSeen, IsSpeaker, between, seeing, seeing_states}
use Rattle.served_rings.proofs.of_life_counts.Eras.{Knows, era_knows}
use Rattle.served_rings.proofs.of_life_counts.TaggedWhole.{seeing_lawful, seeing_stated}
use Rattle.packets_heard.specs.of_state_model.Accounts.{Started}
use Rattle.packets_heard.specs.of_state_model.Promise.{TasksPromised, services_in}
use Rattle.served_rings.proofs.of_state_model.Sessions.{tasks_promised}

-- ---- what frames tell without what is meant by their mails
module _ {N M : Type 0} (f : N → M) where
  pub kept_as : (station : ℕ) (kept : Kept) (ks : List (Frame N)) → kept_all station kept (map (λ k. frame_as f k) ks) ≡ kept_all station kept ks
  kept_as station kept [] = refl
  kept_as station kept (k ∷ ks) = ap (λ j. kept_all station j (map (λ l. frame_as f l) ks)) (sym (kept_of f station kept k)) ∙ kept_as station (kept_after station kept k) ks

-- ---- the services by their names
abbrev seen_started : Started Wanted → Started Spoken.Asked
seen_started s = started_seen (λ (t : Meant). t.mail) named_wanted (λ (r : Option Reply). r) s

named_services : (ss : List (Started Wanted)) → services_in (map (λ s. seen_started s) ss) ≡ map (λ q. service_seen named_wanted q) (services_in ss)
named_services [] = refl
named_services (s ∷ ss) = ap (λ l. service_seen named_wanted s.service ∷ l) (named_services ss)

sum_named : (most : Service Spoken.Asked → ℕ) (qs : List (Service Wanted)) → sum_by (λ q. most (service_seen named_wanted q)) qs ≡ sum_by most (map (λ q. service_seen named_wanted q) qs)
sum_named most [] = refl
sum_named most (q ∷ qs) = omega (
  arith,
  sum_by-cons (λ q. most (service_seen named_wanted q)) q qs,
  sum_by-cons most (service_seen named_wanted q) (map (λ q. service_seen named_wanted q) qs),
  sum_named most qs,
)

each_first : {X : Type 0} (P : X → Type 0) (n : ℕ) (xs : List X) → EachOf P xs → EachOf P (take n xs)
each_first P zero xs e = tt
each_first P (suc n) [] e = tt
each_first P (suc n) (x ∷ xs) e = (e.0, each_first P n xs e.1)

-- what the laws say of a slave by quiet mails
pub record Quiets (weigh : List ℕ → ℕ) (p : Profile) : Type 0 where
  pub wide : 64 ≤ p.back
  pub joins : Joins
  pub emit : Emit weigh p
  pub passed : PassedNone p
  pub calm : IsCalm (product_whole real_parts p) is_calm is_fair 76
  pub speaks : IsSpeaker (quiet_speaker p)

module _ (weigh : List ℕ → ℕ) (p : Profile) (laws : Quiets weigh p) (boot : Bool) (spot : Spot) (opened : ℕ) (v : InState Server) (r : Registers) (fs : List (Frame Body)) (counts : Bool) (l : Life Body Spoken.Asked Master.Reply) (n : Slave (InState Server) Body)
    (i : IsSeen (quiet_speaker p) (seer_of p boot) (table_of boot) spot opened v r fs counts l.era n) where
  abbrev k : IsSpeaker (quiet_speaker p)
  k = laws.speaks

  abbrev here : OpenEra InRow (InState Server) Meant Wanted (Option Reply)
  here = record {
    exchange = seeing (quiet_speaker p);
    states = seeing_states (quiet_speaker p);
    processor = seer_of p boot;
    table = table_of boot;
    spot = spot;
    era = i.era;
    opened = opened;
    end = length i.frames;
    frames = i.frames;
    server = between v;
    registers = r;
    slave = i.slave;
    lawful = seeing_lawful (quiet_speaker p) k;
    stated = seeing_stated (quiet_speaker p) k;
    is = i.is;
  }

  abbrev real_frames : List (Frame Body)
  real_frames = era_frames spot opened (length fs) fs

  abbrev seen_frames : List (Frame Meant)
  seen_frames = era_frames spot opened (length i.frames) i.frames

  abbrev services : List (Service Wanted)
  services = services_in i.era.account.started

  promised : TasksPromised (seeing (quiet_speaker p)) (seeing_states (quiet_speaker p)) (table_of boot spot.station) (λ m. false) (era_frames spot opened (length i.frames) i.frames) spot.station (between v) i.era.side i.era.account i.slave
  promised =
      let z = session_of here in
      of_one here (λ station start d a m. TasksPromised (seeing (quiet_speaker p)) (seeing_states (quiet_speaker p)) (table_of boot station) (λ m. false) (era_frames spot opened (length i.frames) i.frames) station start d a m)
      (tasks_promised z.exchange z.lawful z.states z.stated z.processor z.table (λ m. false) z.planned.tells z.plan z.planned z.sides z.accounts z.ring z.frames z.tasked)

  knows : Knows (product_whole real_parts p) is_calm is_quiet whole_states (quiet_speaker p).naming.more k.last seen_frames spot.station i.era.side i.era.account
  knows =
      era_knows (product_whole real_parts p) (quiet_speaker p).core k.served is_calm is_quiet whole_states k.stated (seeing_lawful (quiet_speaker p) k) (seeing_stated (quiet_speaker p) k) (seer_of p boot) (table_of boot) spot i.era opened (length i.frames) i.frames (between v) r i.slave i.is
      refl i.right (quiet_speaker p).naming.more k.last

  -- WHAT WAS HEARD OF IT, without what is meant
  heard_is : heard spot.station real_frames ≡ untag (heard spot.station seen_frames)
  heard_is = ap (heard spot.station) (sym i.same) ∙ heard_as (λ (t : Meant). t.mail) spot.station seen_frames

  abbrev done : List (Service Wanted)
  done = take promised.count services

  first : IsPrefixOf (emitted emission (heard spot.station real_frames)) (untag (mails (emits_all (both p (table_of boot spot.station)) (v, 0) done)))
  first =
      let p' = promised.emissions in (
        untag p'.0,
        ap (λ hs. emitted emission hs ++ untag p'.0) heard_is
            ∙ ap (λ l. l ++ untag p'.0) (sym (emitted_untag emission (heard spot.station seen_frames) knows.tells))
            ∙ sym (untag_append (emitted (λ (t : Meant). is_own t.meant) (heard spot.station seen_frames)) p'.0)
            ∙ ap untag p'.1,
      )

  few : sum_by weigh (packets_in None (heard spot.station real_frames)) ≤ sum_by (sends_most weigh p) (services_in l.era.account.started)
  few =
      let x = product_whole real_parts p in
      let ready = left_of (x.ready v) (is_calm v) i.is.plan.plan.ready.0 in
      let still = right_of (x.ready v) (is_calm v) i.is.plan.plan.ready.0 in
      let valid = each_first (λ q. service_valid (seeing (quiet_speaker p)).speech q ≡ true) promised.count services (era_valid here) in
      let all = all_send weigh p laws.emit laws.passed k.served 76 laws.calm (table_of boot spot.station) v 0 done ready still valid in
      let heard_few = few_heard weigh p.back laws.wide laws.joins emission own_fragment (heard spot.station real_frames) (untag (mails (emits_all (both p (table_of boot spot.station)) (v, 0) done))) (sum_by (wants_most weigh p) done) all first in
      let named : services_in l.era.account.started ≡ map (λ q. service_seen named_wanted q) services = ap (λ (d : Era Body Spoken.Asked Master.Reply). services_in d.account.started) (sym i.named) ∙ named_services i.era.account.started in
      omega (arith, heard_few, first_sum (wants_most weigh p) promised.count services, sum_named (sends_most weigh p) services, ap (sum_by (sends_most weigh p)) named)

  -- SO OF ITS LIFE
  pub seen_live : opened < length fs → IsLive (Weighs weigh (sends_most weigh p)) spot fs l
  seen_live before = record {
    opened = opened;
    opened_at = ap (λ (d : Era Body Spoken.Asked Master.Reply). d.opened) (sym i.named) ∙ i.is.opened_at;
    before = before;
    last = ap (λ (d : Era Body Spoken.Asked Master.Reply). d.side.halves.inn.last) (sym i.named) ∙ knows.kept
        ∙ ap (λ (c : Kept). c.heard) (sym (kept_as (λ (t : Meant). t.mail) spot.station nothing_kept seen_frames) ∙ ap (kept_all spot.station nothing_kept) i.same);
    told = λ past told. weighs_on weigh (sends_most weigh p) past (heard spot.station real_frames) l.past l.era few told;
  }
