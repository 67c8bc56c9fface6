-- OF AN OPEN SLAVE the packets that its epoch's mails join to are of the services that came into hand in it.
use Rattle.std.proofs.Common.{◌≡◌, ℕ, zero, suc, ◌+◌, ◌≤◌, Bool, true, false, None, List, [], ◌∷◌, ◌++◌, take, length, refl, sym, ap, ◌∙◌, subst, arith}
use Rattle.std.specs.Prelude.{sum_by}
use Rattle.std.proofs.lemmas.List.Sums.{sum_by-cons, sum_by-append}
use Rattle.packets_heard.specs.of_eoe.declared.message.Fragment.{Fragment}
use Rattle.packets_heard.specs.of_exchange_model.Exchange.{emitted}
use Rattle.packets_heard.specs.of_exchange_model.Prefix.{IsPrefixOf}
use Rattle.packets_heard.specs.of_exchange_model.Rows.{emits_all}
use Rattle.packets_heard.specs.of_life_model.Eras.{Clearing, era_frames}
use Rattle.packets_heard.specs.of_life_model.Lives.{Spot, Life, Stand}
use Rattle.packets_heard.specs.of_link_mails.Body.{Body}
use Rattle.packets_heard.specs.of_master_duty.Reply.{Reply}
use Rattle.packets_heard.specs.of_master_hand.Joins.{fragment_in, packets_in}
use Rattle.packets_heard.specs.of_master_hand.Spoken.{Asked}
use Rattle.packets_heard.specs.Packets.{Emitted, ArePackets, all_fragments, octets_of, parts, IsOwn}
use Rattle.packets_heard.proofs.PacketParts.{heard_own}
use Rattle.packets_heard.specs.of_segment_model.Record.{Frame, heard}
use Rattle.served_rings.specs.of_slave_lives.Lived.{Behind, table_of}
use Rattle.served_rings.specs.of_slave_lives.Opening.{Plan}
use Rattle.served_rings.specs.of_slave_model.Profile.{Protocol, Profile}
use Rattle.served_rings.specs.of_slave_model.Product.{side}
use Rattle.served_rings.specs.of_slave_model.Server.{ServiceOf}
use Rattle.served_rings.specs.of_slave_parts.Parts.{Core, Server, parts as real_parts}
use Rattle.packets_heard.specs.of_slave_server.Serving.{Serving}
use Rattle.packets_heard.specs.of_slave_node.Node.{Node}
use Rattle.packets_heard.specs.of_protocol_models.Network.{Station}
use Rattle.run_promises.specs.Sends.{MaySend, Sends, may_send, asked_sends, sends_most}
use Rattle.run_promises.proofs.Cuts.{parts_append, sends_none, sends_both}
use Rattle.packets_heard.specs.of_state_model.Families.{InState}
use Rattle.packets_heard.specs.of_state_model.Stated.{Service, acts, mails, with_states}
use Rattle.served_rings.proofs.of_state_model.Acts.{mails_acts, mails_append}
use Rattle.packets_heard.specs.of_state_model.States.{Table}
use Rattle.packets_heard.specs.of_state_model.Promise.{services_in}
use Rattle.served_rings.specs.of_whole_ring.Whole.{OwesLaws, IsLived}
use Rattle.served_rings.proofs.of_whole_ring.Promised.{promised}
use Rattle.run_promises.proofs.Live.{IsLive}
use Rattle.run_promises.proofs.Times.{Weighs, weighs_on}

abbrev pub Real : Type 0
Real = Behind Serving (InState Server) (InState (Station Core)) Asked Reply

-- what a law of slaves says of their services
pub record Emit (weigh : List ℕ → ℕ) (p : Profile) : Type 0 where
  pub emits : (al : ℕ) (s : Station Core) (i : Protocol) (q : ServiceOf i) → MaySend s → Sends weigh p.back ((side real_parts p al i).emits s q) (sum_by weigh (may_send p i q))
  pub stays : (al : ℕ) (s : Station Core) (i : Protocol) (q : ServiceOf i) → MaySend s → MaySend ((side real_parts p al i).exec s q)

-- SERVICES THAT SEND SO, each at most what it may
pub record SendSo (weigh : List ℕ → ℕ) (p : Profile) (w : Real) : Type 0 where
  pub begins : (v : InState Server) → w.exchange.ready v ≡ true → MaySend (w.exchange.app v).inner
  pub emits : (a : InState (Station Core)) (q : Asked) → MaySend a.inner → Sends weigh p.back (w.exchange.emits a q) (sum_by weigh (asked_sends p q))
  pub stays : (a : InState (Station Core)) (q : Asked) → MaySend a.inner → MaySend (w.exchange.exec a q).inner
  pub told : (state : ℕ) (a : InState (Station Core)) → MaySend a.inner → MaySend (w.states.told state a).inner
  pub own : IsOwn w.exchange.speech.emission fragment_in

pub first_sum : {X : Type 0} (f : X → ℕ) (n : ℕ) (xs : List X) → sum_by f (take n xs) ≤ sum_by f xs
first_sum f zero xs = omega arith
first_sum f (suc n) [] = omega arith
first_sum f (suc n) (x ∷ xs) = omega (arith, sum_by-cons f x (take n xs), sum_by-cons f x xs, first_sum f n xs)

prefix_sum : {X : Type 0} (f : X → ℕ) (xs ys : List X) → IsPrefixOf xs ys → sum_by f xs ≤ sum_by f ys
prefix_sum f xs ys p = omega (arith, ap (sum_by f) p.1, sum_by-append f xs p.0)

-- what joining says
abbrev pub Joins : Type 0
Joins = (room : ℕ) (ps : List Emitted) (ms : List Body) (rest : List Fragment) → 64 ≤ room → ArePackets ps → parts fragment_in ms ++ rest ≡ all_fragments room ps → IsPrefixOf (packets_in None ms) (octets_of ps)

-- of mails of which the emissions are the first of those that have these fragments
pub heard_cut : (room : ℕ) (emission : Body → Bool) → IsOwn emission fragment_in → (hs ms : List Body) (packets : List Emitted) → parts fragment_in ms ≡ all_fragments room packets → (first : IsPrefixOf (emitted emission hs) ms) →
    parts fragment_in hs ++ parts fragment_in first.0 ≡ all_fragments room packets
heard_cut room emission is_own hs ms packets cut first =
    ap (λ l. l ++ parts fragment_in first.0) (heard_own emission fragment_in is_own hs) ∙ sym (parts_append (emitted emission hs) first.0) ∙ ap (parts fragment_in) first.1 ∙ cut

-- they join to no more packets
pub few_heard : (weigh : List ℕ → ℕ) (room : ℕ) → 64 ≤ room → Joins → (emission : Body → Bool) → IsOwn emission fragment_in → (hs ms : List Body) (n : ℕ) → Sends weigh room ms n → IsPrefixOf (emitted emission hs) ms → sum_by weigh (packets_in None hs) ≤ n
few_heard weigh room wide joins emission is_own hs ms n s first =
    let all = heard_cut room emission is_own hs ms s.packets s.whole.cut first in
    let joined = prefix_sum weigh (packets_in None hs) (octets_of s.packets) (joins room s.packets hs (parts fragment_in first.0) wide s.whole.are all) in
    omega (arith, joined, s.few)

module _ (weigh : List ℕ → ℕ) (p : Profile) (wide : 64 ≤ p.back) (joins : Joins) (w : Real) (so : SendSo weigh p w) where
  abbrev most : Service Asked → ℕ
  most = sends_most weigh p

  -- all that services emit, one after the other
  fold_sends : (table : Table) (a : InState (Station Core)) (k : ℕ) (qs : List (Service Asked)) → MaySend a.inner → Sends weigh p.back (mails (emits_all (with_states w.exchange w.states table) (a, k) qs)) (sum_by most qs)
  fold_sends table a k [] may = sends_none weigh p.back [] 0 refl
  fold_sends table a k (Service.Mails q ∷ qs) may =
      let both = with_states w.exchange w.states table in
      let rest = fold_sends table (w.exchange.exec a q) k qs (so.stays a q may) in
      let all = sends_both weigh p.back (w.exchange.emits a q) (mails (emits_all both (w.exchange.exec a q, k) qs)) (sum_by weigh (asked_sends p q)) (sum_by most qs) (so.emits a q may) rest in
      let same : mails (emits_all both (a, k) (Service.Mails q ∷ qs)) ≡ w.exchange.emits a q ++ mails (emits_all both (w.exchange.exec a q, k) qs) =
      mails_append (acts (w.exchange.emits a q)) (emits_all both (w.exchange.exec a q, k) qs) ∙ ap (λ l. l ++ mails (emits_all both (w.exchange.exec a q, k) qs)) (mails_acts (w.exchange.emits a q)) in
      subst (λ n. Sends weigh p.back (mails (emits_all both (a, k) (Service.Mails q ∷ qs))) n) (sym (sum_by-cons most (Service.Mails q) qs))
      (subst (λ ms. Sends weigh p.back ms (sum_by weigh (asked_sends p q) + sum_by most qs)) (sym same) all)
  fold_sends table a k (Service.State target ∷ qs) may =
      let both = with_states w.exchange w.states table in
      let next = both.exec (a, k) (Service.State target) in
      let same : sum_by most qs ≡ sum_by most (Service.State target ∷ qs) = omega (arith, sum_by-cons most (Service.State target) qs) in
      subst (λ n. Sends weigh p.back (mails (emits_all both next qs)) n) same (fold_sends table next.0 next.1 qs (so.told _ a may))

  -- AN OPEN SLAVE
  pub live : (c : Clearing (InState Server) (InState (Station Core))) (plan : Plan) (spot : Spot) (first : InState (Station Core)) (l : Life Body Asked Reply) (gs : List (Frame Body)) (n : Node Serving) → OwesLaws w c plan spot → IsLived w c plan spot first l gs n → l.stand ≡ Stand.Open →
      IsLive (Weighs weigh most) spot gs l
  live c plan spot first l gs n owes lived stand =
      let x = promised w c plan spot first l gs n owes lived stand in
      let k = x.epoch in
      let t = x.promised (λ m. false) in
      let may = so.begins k.server k.is.plan.plan.ready.0 in
      let qs = take t.count (services_in l.era.account.started) in
      let all = fold_sends (table_of w spot.station) (w.exchange.app k.server) 0 qs may in
      let few = few_heard weigh p.back wide joins w.exchange.speech.emission so.own (heard spot.station (era_frames spot k.opened (length gs) gs)) _ (sum_by most qs) all t.emissions in
      record {
        opened = k.opened;
        opened_at = k.is.opened_at;
        before = k.before;
        last = x.counters.heard;
        told = λ past told. weighs_on weigh most past (heard spot.station (era_frames spot k.opened (length gs) gs)) l.past l.era (let first = first_sum most t.count (services_in l.era.account.started) in omega (arith, few, first)) told;
      }
