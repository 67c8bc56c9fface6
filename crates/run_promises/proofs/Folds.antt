-- ALL THAT A SLAVE SENDS OF ITSELF by services and quiet mails: the packets of its services.
use Rattle.std.proofs.Common.{◌≡◌, ℕ, ◌+◌, not, Bool, true, false, Option, List, [], ◌∷◌, ◌++◌, map, Ok, Err, refl, sym, ap, ◌∙◌, subst, arith, if◌then◌else◌}
use Rattle.std.specs.Prelude.{sum_by}
use Rattle.std.proofs.lemmas.List.Sums.{sum_by-cons}
use Rattle.packets_heard.specs.of_exchange_model.Exchange.{Exchange, emitted}
use Rattle.packets_heard.specs.of_exchange_model.Lifted.{EachOf}
use Rattle.packets_heard.specs.of_exchange_model.Rows.{emits_all}
use Rattle.packets_heard.specs.of_exchange_model.Refusing.{gated}
use Rattle.served_rings.specs.of_few_replies.Calm.{IsCalm}
use Rattle.served_rings.specs.of_few_replies.Packets.{is_calm, is_fair}
use Rattle.served_rings.specs.of_life_counts.Seen.{service_seen}
use Rattle.packets_heard.specs.of_link_mails.Body.{Body}
use Rattle.packets_heard.specs.of_master_hand.Joins.{fragment_in}
use Rattle.packets_heard.specs.Packets.{parts}
use Rattle.packets_heard.proofs.PacketParts.{heard_own}
use Rattle.served_rings.specs.of_run_work.Sessions.{OwnService, Wanted, Meant, InRow, named, named_mail, named_wanted}
use Rattle.packets_heard.specs.of_segment_model.Ends.{Outcome}
use Rattle.run_promises.specs.Sends.{Sends, asked_sends, is_network, may_send, sends_most}
use Rattle.run_promises.proofs.All.{valid_sends}
use Rattle.run_promises.proofs.Cuts.{sends_both, sends_none}
use Rattle.run_promises.proofs.Epochs.{Emit}
use Rattle.run_promises.proofs.Owns.{own_fragment}
use Rattle.run_promises.specs.Quiet.{is_quiet, quiet_speaker}
use Rattle.run_promises.proofs.Speaks.{quiet_fair}
use Rattle.served_rings.specs.of_serving_model.Tagged.{Asked, IsServed, Tagged, asked_emits, asked_exec, own_gift, untag}
use Rattle.served_rings.specs.of_slave_model.Application.{station_valid}
use Rattle.served_rings.specs.of_slave_model.Product.{emission, refusal, served, side}
use Rattle.served_rings.specs.of_slave_model.Profile.{Protocol, Profile, serves}
use Rattle.served_rings.specs.of_slave_model.Server.{Reply, ServiceOf, seat}
use Rattle.served_rings.proofs.of_slave_model.Stations.{left_of, right_of}
use Rattle.served_rings.specs.of_slave_parts.Parts.{Server, parts as real_parts}
use Rattle.served_rings.specs.of_slave_parts.Served.{product_whole, served_whole, side_whole}
use Rattle.served_rings.specs.of_slave_parts.Whole.{gated_whole}
use Rattle.packets_heard.specs.of_state_model.Families.{InState}
use Rattle.packets_heard.specs.of_state_model.Stated.{Act, Counting, Service, acts, mails, service_valid, with_states}
use Rattle.served_rings.proofs.of_state_model.Acts.{mails_acts, mails_append}
use Rattle.packets_heard.specs.of_state_model.States.{Table}
use Rattle.served_rings.specs.of_life_counts.Epochs.{seeing, seeing_states}

not_false : (b : Bool) → not b ≡ true → b ≡ false
not_false true e = absurd (cc)
not_false false e = refl

pub untag_own : {M : Type 0} (Q : Type 0) (ms : List M) → untag {Q = Q} (map (λ g. own_gift g) ms) ≡ ms
untag_own Q [] = refl
untag_own Q (m ∷ ms) = ap (λ l. m ∷ l) (untag_own Q ms)

pub untag_append : {M Q : Type 0} (xs ys : List (Tagged M Q)) → untag (xs ++ ys) ≡ untag xs ++ untag ys
untag_append [] ys = refl
untag_append (x ∷ xs) ys = ap (λ l. x.mail ∷ l) (untag_append xs ys)

-- a protocol over the whole server emits as it does over the station
pub same_emits : (p : Profile) (al : ℕ) (j : Server) (i : Protocol) (q : ServiceOf i) → (side_whole real_parts p al i).emits (seat i j) q ≡ (side real_parts p al i).emits j.app q
same_emits p al j i q = go i q (serves p al i)
  where
    go : (i : Protocol) (q : ServiceOf i) (on : Bool) → (gated_whole on (served_whole real_parts p al i) (refusal real_parts p al i)).emits (seat i j) q ≡ (gated on (served real_parts p al i) (refusal real_parts p al i)).emits j.app q
    go Protocol.CoE q true = refl
    go Protocol.FoE q true = refl
    go Protocol.SoE q true = refl
    go Protocol.EoE q true = refl
    go Protocol.CoE q false = refl
    go Protocol.FoE q false = refl
    go Protocol.SoE q false = refl
    go Protocol.EoE q false = refl

-- what is asked for by a protocol's service
sends_named : (p : Profile) (i : Protocol) (q : ServiceOf i) → asked_sends p (named i q) ≡ may_send p i q
sends_named p Protocol.CoE q = refl
sends_named p Protocol.FoE q = refl
sends_named p Protocol.SoE q = refl
sends_named p Protocol.EoE q = refl

-- by a mail that is passed on nothing
sends_passed : (p : Profile) (m : Body) → asked_sends p (named_mail m) ≡ []
sends_passed p (Ok m) = refl
sends_passed p (Err fault) = refl

-- what one of them weighs
abbrev pub wants_most : (List ℕ → ℕ) → Profile → Service Wanted → ℕ
wants_most weigh p q = sends_most weigh p (service_seen named_wanted q)

-- the session with its AL state
abbrev pub both : Profile → Table → Exchange (Counting InRow) (InState Server × ℕ) (Act Meant) (Service Wanted) (Outcome (Option Reply))
both p table = with_states (seeing (quiet_speaker p)) (seeing_states (quiet_speaker p)) table

-- what a fair mail that isn't of EoE gives is no fragment
abbrev pub PassedNone : Profile → Type 0
PassedNone p = (v : InState Server) (m : Body) → is_calm v ≡ true → is_fair m ≡ true → is_network m ≡ false → parts fragment_in ((product_whole real_parts p).serve v m).1 ≡ []

module _ (weigh : List ℕ → ℕ) (p : Profile) (emit : Emit weigh p) (passed : PassedNone p) (law : IsServed (product_whole real_parts p) (λ (v : InState Server). v.inner.app)) (most : ℕ) (calm : IsCalm (product_whole real_parts p) is_calm is_fair most) where
  abbrev most_of : Service Wanted → ℕ
  most_of = wants_most weigh p

  abbrev x : Exchange (InState Server) (InState Server) Body OwnService Reply
  x = product_whole real_parts p

  -- BY ONE
  script_sends : (v : InState Server) (i : Protocol) (q : ServiceOf i) → x.ready v ≡ true → Sends weigh p.back (untag (asked_emits x v (Asked.Script (i, q)))) (most_of (Service.Mails (Asked.Script (i, q))))
  script_sends v i q ready =
      let may = valid_sends v.inner.app (left_of (station_valid real_parts v.inner.app) _ ready) in
      let same : (side real_parts p v.state i).emits v.inner.app q ≡ untag (asked_emits x v (Asked.Script (i, q))) = sym (same_emits p v.state v.inner i q) ∙ sym (untag_own OwnService (x.emits v (i, q))) in
      subst (λ ms. Sends weigh p.back ms (most_of (Service.Mails (Asked.Script (i, q))))) same
      (subst (λ ps. Sends weigh p.back ((side real_parts p v.state i).emits v.inner.app q) (sum_by weigh ps)) (sym (sends_named p i q)) (emit.emits v.state v.inner.app i q may))

  passed_sends : (v : InState Server) (m : Body) (answers : Bool) → is_calm v ≡ true → is_quiet m ≡ true → Sends weigh p.back (untag (asked_emits x v (Asked.Passed m answers))) (most_of (Service.Mails (Asked.Passed m answers)))
  passed_sends v m answers still quiet = sends_none weigh p.back (untag (asked_emits x v (Asked.Passed m answers))) (most_of (Service.Mails (Asked.Passed m answers))) (go answers)
    where
      gives : List Body
      gives = (x.serve v m).1

      none : parts fragment_in gives ≡ []
      none = passed v m still (quiet_fair m quiet) (not_false (is_network m) (right_of (is_fair m) (not (is_network m)) quiet))

      go : (b : Bool) → parts fragment_in (untag (if b then map (λ g. own_gift {Q = OwnService} g) (emitted emission gives) else map (λ g. own_gift {Q = OwnService} g) gives)) ≡ []
      go true = ap (parts fragment_in) (untag_own OwnService (emitted emission gives)) ∙ sym (heard_own emission fragment_in own_fragment gives) ∙ none
      go false = ap (parts fragment_in) (untag_own OwnService gives) ∙ none

  -- BY ALL, one behind the other
  module _ (table : Table) where
    -- the mails of what was emitted by one more
    one_more : (v : InState Server) (k : ℕ) (q : Wanted) (qs : List (Service Wanted)) → untag (mails (emits_all (both p table) (v, k) (Service.Mails q ∷ qs))) ≡ untag (asked_emits x v q) ++ untag (mails (emits_all (both p table) (asked_exec x v q, k) qs))
    one_more v k q qs =
        let now = asked_emits x v q in
        let rest = emits_all (both p table) (asked_exec x v q, k) qs in
        ap untag (mails_append (acts now) rest ∙ ap (λ l. l ++ mails rest) (mails_acts now)) ∙ untag_append now (mails rest)

    pub all_send : (v : InState Server) (k : ℕ) (qs : List (Service Wanted)) → x.ready v ≡ true → is_calm v ≡ true → EachOf (λ q. service_valid (seeing (quiet_speaker p)).speech q ≡ true) qs →
        Sends weigh p.back (untag (mails (emits_all (both p table) (v, k) qs))) (sum_by most_of qs)
    all_send v k [] ready still valid = sends_none weigh p.back [] 0 refl
    all_send v k (Service.Mails (Asked.Script q) ∷ qs) ready still valid =
        let next = x.exec v q in
        let rest = all_send next k qs (law.ready v q ready valid.0) (calm.serves v q ready valid.0 still) valid.1 in
        let now = script_sends v q.0 q.1 ready in
        let s : Service Wanted = Service.Mails (Asked.Script q) in
        subst (λ n. Sends weigh p.back (untag (mails (emits_all (both p table) (v, k) (s ∷ qs)))) n) (sym (sum_by-cons most_of s qs))
        (subst (λ ms. Sends weigh p.back ms (most_of s + sum_by most_of qs)) (sym (one_more v k (Asked.Script q) qs))
        (sends_both weigh p.back (untag (asked_emits x v (Asked.Script q))) (untag (mails (emits_all (both p table) (next, k) qs))) (most_of s) (sum_by most_of qs) now rest))
    all_send v k (Service.Mails (Asked.Passed m answers) ∷ qs) ready still valid =
        let next = (x.serve v m).0 in
        let rest = all_send next k qs (law.passes v m ready) (calm.passes v m ready still (quiet_fair m valid.0)) valid.1 in
        let now = passed_sends v m answers still valid.0 in
        let s : Service Wanted = Service.Mails (Asked.Passed m answers) in
        subst (λ n. Sends weigh p.back (untag (mails (emits_all (both p table) (v, k) (s ∷ qs)))) n) (sym (sum_by-cons most_of s qs))
        (subst (λ ms. Sends weigh p.back ms (most_of s + sum_by most_of qs)) (sym (one_more v k (Asked.Passed m answers) qs))
        (sends_both weigh p.back (untag (asked_emits x v (Asked.Passed m answers))) (untag (mails (emits_all (both p table) (next, k) qs))) (most_of s) (sum_by most_of qs) now rest))
    all_send v k (Service.State target ∷ qs) ready still valid =
        let next = (both p table).exec (v, k) (Service.State target) in
        let s : Service Wanted = Service.State target in
        let same : sum_by most_of qs ≡ sum_by most_of (s ∷ qs) = omega (arith, sum_by-cons most_of s qs) in
        subst (λ n. Sends weigh p.back (untag (mails (emits_all (both p table) next qs))) n) same (all_send next.0 next.1 qs ready still valid.1)
