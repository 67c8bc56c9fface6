-- OF A MAIL THAT IS PASSED ON, behind which a state service came into hand: all replies of its server's one step were heard.
use Rattle.std.proofs.Common.{◌≡◌, ℕ, Bool, Option, Some, List, [], ◌∷◌, ◌++◌, refl, ap, sym, ◌∙◌, subst, append_assoc}
use Rattle.std.proofs.lemmas.List.{map-append}
use Rattle.served_places.specs.of_exchange_model.Exchange.{Exchange, after, plain}
use Rattle.served_places.specs.of_exchange_model.Rows.{Row, told_all}
use Rattle.served_places.specs.of_life_model.Lives.{Spot, Era}
use Rattle.run_work.specs.of_few_replies.Silent.{is_passed}
use Rattle.served_places.specs.of_segment_model.Record.{Frame}
use Rattle.served_places.specs.of_segment_model.Slaves.{Registers, Processor, Slave}
use Rattle.served_places.specs.of_serving_model.Tagged.{Meant, Tagged, Asked, Rowed, is_own, untag}
use Rattle.served_places.proofs.of_state_model.Acts.{acts_same, plain_acts}
use Rattle.served_places.specs.of_state_model.Stated.{Service, with_states}
use Rattle.served_places.specs.of_state_model.States.{Table}
use Rattle.run_work.specs.of_life_counts.Epochs.{Speaker, IsSpeaker, IsSeen, between, seeing, seeing_states}
use Rattle.run_work.specs.of_life_counts.Foreseen.{AllRight, server_behind}
use Rattle.run_work.proofs.of_life_counts.TaggedWhole.{seeing_lawful, seeing_stated}
use Rattle.served_places.proofs.of_state_model.Ghosts.{counting}
use Rattle.served_places.specs.of_state_model.Accounts.{Started}
use Rattle.served_places.specs.of_state_model.Promise.{mails_in, services_in}
use Rattle.served_rings.proofs.Before.{led_behind}
use Rattle.served_rings.proofs.Newest.{behind, gifts_are, given_one, replies, right_at}
use Rattle.served_rings.proofs.Turned.{by_mails}

module _ {V M Q R C T : Type 0} (w : Speaker V M Q R C T) (k : IsSpeaker w) (seer : Processor (Rowed V M Q)) (table : ℕ → Table) (spot : Spot) (opened : ℕ) (v : V) (r : Registers) (fs : List (Frame M)) (counts : Bool) (e : Era M T (Option R)) (n : Slave V M)
    (i : IsSeen w seer table spot opened v r fs counts e n) where
  abbrev t : Table
  t = table spot.station

  abbrev x : Exchange V V M Q R
  x = w.exchange

  pub heard_whole : (before : List (Started (Asked M Q))) (m : M) (answers : Bool) (f : ℕ) (states : List (Started (Asked M Q))) (target g : ℕ) →
      i.era.account.started ≡ (before ++ by_mails (Asked.Passed m answers) f ∷ states) ++ record { service = Service.State target; frame = g } ∷ [] → mails_in (services_in states) ≡ 0 → (row : Row (Tagged M Q) (Asked M Q) (Option R)) → i.era.side.now ≡ Some row →
      untag (replies x w.naming.more row) ≡ plain x.speech.emission (x.serve (server_behind x w.states t v (services_in before)) m).1
  heard_whole before m answers f states target g started none row now =
      let y = seeing w in
      let lawful = seeing_lawful w k in
      let stated = seeing_stated w k in
      let one : Started (Asked M Q) = record { service = Service.State target; frame = g } in
      let h = led_behind y lawful (seeing_states w) stated seer table spot opened (between v) r (λ t. w.naming.more t.mail) is_passed i.is.plan i.is.answers i.frames counts i.era i.slave i.led before (Asked.Passed m answers) f states target g started none row now in
      let at = server_behind x w.states t v (services_in before) in
      let u = after (with_states y (seeing_states w) t).serve (counting (between v)) (told_all h.rows) in
      let split : services_in i.era.account.started ≡ services_in before ++ Service.Mails (Asked.Passed m answers) ∷ services_in (states ++ one ∷ []) =
      ap services_in (started ∙ append_assoc before (by_mails (Asked.Passed m answers) f ∷ states) (one ∷ [])) ∙ map-append (λ (s : Started (Asked M Q)). s.service) before (by_mails (Asked.Passed m answers) f ∷ (states ++ one ∷ [])) in
      let right = right_at x w.states t v (services_in before) m answers (services_in (states ++ one ∷ [])) (subst (AllRight x w.states t v) split i.right) in
      let stands = behind x w.core k.served w.calm w.fair w.states w.naming.more k.last t lawful stated (between v) refl h.ready h.rows h.settled (services_in before) h.services_is in
      let same = acts_same (replies x w.naming.more row) (plain (λ (z : Tagged M Q). is_own z.meant) (y.serve u.server (record { mail = m; meant = Meant.Alone answers })).1) (sym (plain_acts y.speech.emission row.heard) ∙ h.all ∙ given_one x w.core k.served w.calm w.fair w.states w.naming.more k.last t lawful stated u m answers) in
      ap untag same ∙ gifts_are x w.core k.served w.calm w.fair w.states w.naming.more k.last t lawful stated (between v) h.rows at stands m answers right
