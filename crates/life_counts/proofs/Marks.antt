-- WHAT WAS HEARD FOR A MAIL THAT IS PASSED ON at one moment of an epoch: a first part of its replies, as long as no service came into hand behind it.
use Rattle.std.proofs.Common.{◌≡◌, inl, inr, ℕ, suc, ◌&&◌, Bool, true, false, not, cond, is_some, Option, None, Some, List, [], ◌∷◌, ◌++◌, map, refl, ap, sym, ◌∙◌, subst, append-nil, if◌then◌else◌}
use Rattle.std.proofs.lemmas.List.{map-append}
use Rattle.master_hand.specs.of_exchange_model.Prefix.{IsPrefixOf}
use Rattle.master_hand.specs.of_exchange_model.Exchange.{Exchange, IsLawful, after, given, plain}
use Rattle.master_hand.specs.of_exchange_model.Rows.{Row, told_all, services, exec_all}
use Rattle.master_hand.proofs.of_exchange_model.Lists.{append_none}
use Rattle.master_hand.proofs.of_exchange_model.Nows.{heard_begins}
use Rattle.master_hand.proofs.of_exchange_model.Settles.{settled_app, settled_ready}
use Rattle.few_replies.specs.Calm.{calm_tagged}
use Rattle.few_replies.specs.Erased.{OfRow}
use Rattle.few_replies.proofs.Clients.{plain_untag}
use Rattle.few_replies.specs.Silent.{IsForeseenRight}
use Rattle.master_hand.specs.of_segment_model.Ends.{Outcome}
use Rattle.master_hand.specs.of_segment_model.Record.{Frame}
use Rattle.master_hand.specs.of_segment_model.Seats.{Seat}
use Rattle.master_hand.specs.of_serving_model.Passing.{ends_told, LastTells}
use Rattle.master_hand.specs.of_serving_model.Tagged.{Meant, Tagged, Asked, untag, own_gift, is_own, no_reply, last_gifts, answer_gifts, ends_marked, Rowed, ideal}
use Rattle.master_hand.specs.of_serving_model.TaggedStates.{tagged_states}
use Rattle.few_replies.proofs.of_serving_model.Passings.{by_contents}
use Rattle.master_hand.specs.of_state_model.Stated.{Stated, IsStated, Act, acts, Service, Counting, with_states}
use Rattle.few_replies.proofs.of_state_model.Acts.{plain_acts, begin_acts, given_acts}
use Rattle.few_replies.proofs.of_state_model.StatedLaw.{stated_law}
use Rattle.master_hand.specs.of_state_model.Promises.{IsTable}
use Rattle.master_hand.specs.of_state_model.States.{Table}
use Rattle.master_hand.specs.of_state_model.Accounts.{Account, Started}
use Rattle.master_hand.specs.of_state_model.Promise.{services_in}
use Rattle.few_replies.proofs.of_state_model.Ghosts as Ghosts
use Rattle.few_replies.proofs.of_state_model.Ghosts.{counting, start_of, starts_of, starts_append, Shows, Rested, RestedRow}
use Rattle.few_replies.proofs.of_state_model.Newest.{Holds}
use Rattle.few_replies.proofs.of_state_model.Stately.{state_over}
use Rattle.life_counts.specs.Epochs.{newest_of}
use Rattle.life_counts.specs.Foreseen.{AllRight}
use Rattle.life_counts.proofs.Rights.{lasts_tell, untag-last}
use Rattle.life_counts.proofs.Steps.{started_services}

pub newest_last : {Q : Type 0} (ss : List (Started Q)) (s : Started Q) → newest_of (ss ++ s ∷ []) ≡ Some s.service
newest_last [] s = refl
newest_last (k ∷ []) s = refl
newest_last (k ∷ (t ∷ ss)) s = newest_last (t ∷ ss) s

pub none_plain : {M : Type 0} (e : M → Bool) (ms : List M) → plain e ms ≡ [] → no_reply e ms ≡ true
none_plain e [] is = refl
none_plain {M} e (m ∷ ms) is = go (e m) is (λ rest. none_plain e ms rest)
  where
    go : (b : Bool) → cond (not b) (m ∷ plain e ms) (plain e ms) ≡ [] → (plain e ms ≡ [] → no_reply e ms ≡ true) → (if b then no_reply e ms else false) ≡ true
    go true is rest = rest is
    go false is rest = absurd (let bad : m ∷ plain e ms ≡ [] = is in cc)

plain_owns : {M : Type 0} (Q : Type 0) (ms : List M) → plain (λ (t : Tagged M Q). is_own t.meant) (map (λ m. own_gift m) ms) ≡ []
plain_owns Q [] = refl
plain_owns Q (m ∷ ms) = plain_owns Q ms

left_of : (a b : Bool) → (a && b) ≡ true → a ≡ true
left_of true b e = refl
left_of false b e = absurd (let no : false ≡ true = e in cc)

module _ {V M Q R : Type 0} (x : Exchange V V M Q R) (calm : V → Bool) (fair : M → Bool) (s : Stated V V Q) (more : M → Bool) (last : LastTells x more) where
  abbrev pub replies : Row (Tagged M Q) (Asked M Q) (Option R) → List (Tagged M Q)
  replies r = plain (λ (t : Tagged M Q). is_own t.meant) r.heard

  -- replies of a server, of which the last tells that it is, and the first of them
  pub record HasReplies (hs : List (Tagged M Q)) : Type 0 where
    pub all : List M
    pub tells : ends_told more all ≡ true
    pub begin : IsPrefixOf (untag hs) all

  -- THE NEWEST ROW passes a mail on: what was heard for it is a first part of its replies; or a state service came into hand behind it, and it has its answer
  pub data PassedNow (started : List (Started (Asked M Q))) (m : M) (answers : Bool) (r : Row (Tagged M Q) (Asked M Q) (Option R)) : Type 0 where
    heard : (answers && ends_marked (replies r)) ≡ ends_told more (untag (replies r)) → (answers ≡ true → HasReplies (replies r)) → (answers ≡ true → (target : ℕ) → newest_of started ≡ Some (Service.State target) → ⊥) → PassedNow started m answers r
    rests : (target : ℕ) → newest_of started ≡ Some (Service.State target) → answers ≡ true → is_some r.answer ≡ true → PassedNow started m answers r

  abbrev pub IsPassedNow : List (Started (Asked M Q)) → Row (Tagged M Q) (Asked M Q) (Option R) → Type 0
  IsPassedNow started r = (m : M) (answers : Bool) → r.service ≡ Asked.Passed m answers → PassedNow started m answers r

  quiet : (started : List (Started (Asked M Q))) (m : M) (r : Row (Tagged M Q) (Asked M Q) (Option R)) → replies r ≡ [] → PassedNow started m false r
  quiet started m r none = PassedNow.heard (sym (ap (λ l. ends_told more (untag l)) none)) (λ e. absurd (let no : false ≡ true = e in cc)) (λ e. absurd (let no : false ≡ true = e in cc))

  -- what was heard of a first part of its replies
  of_part : (started : List (Started (Asked M Q))) (v : V) (m : M) (answers : Bool) (r : Row (Tagged M Q) (Asked M Q) (Option R)) → ((target : ℕ) → newest_of started ≡ Some (Service.State target) → ⊥) → x.ready v ≡ true → IsForeseenRight x v m answers →
      IsPrefixOf (replies r) (plain (λ (t : Tagged M Q). is_own t.meant) (if answers then answer_gifts x.speech.emission m (x.serve v m).1 else map (λ g. own_gift g) (x.serve v m).1)) → PassedNow started m answers r
  of_part started v m false r mails ready right part = quiet started m r (append_none (replies r) part.0 (part.1 ∙ plain_owns Q (x.serve v m).1)).0
  of_part started v m true r mails ready right part =
      let gs = (x.serve v m).1 in
      let loud : no_reply x.speech.emission gs ≡ false = opposite (no_reply x.speech.emission gs) right in
      let is : untag (plain (λ (t : Tagged M Q). is_own t.meant) (answer_gifts {Q = Q} x.speech.emission m gs)) ≡ plain x.speech.emission gs =
      ap (λ b. untag (plain (λ (t : Tagged M Q). is_own t.meant) (if b then record { mail = m; meant = Meant.Reply true } ∷ last_gifts {Q = Q} x.speech.emission gs else last_gifts {Q = Q} x.speech.emission gs))) loud
      ∙ plain_untag x.speech.emission (last_gifts {Q = Q} x.speech.emission gs) (lasts_tell Q x.speech.emission gs) ∙ ap (plain x.speech.emission) (untag-last Q x.speech.emission gs) in
      PassedNow.heard (by_contents x more last v m ready loud (replies r) part.0 (sym part.1)) (λ e. record {
        all = plain x.speech.emission gs;
        tells = elim (last v m ready) [
          | inl none ↦ absurd (let no : true ≡ false = sym (none_plain x.speech.emission gs none) ∙ loud in cc)
          | inr told ↦ told
        ];
        begin = (untag part.0, sym (untag_append (replies r) part.0) ∙ ap untag part.1 ∙ is);
      }) (λ e. mails)
    where
      opposite : (b : Bool) → true ≡ not b → b ≡ false
      opposite false e = refl
      opposite true e = absurd (let no : true ≡ false = e in cc)

      untag_append : (a b : List (Tagged M Q)) → untag (a ++ b) ≡ untag a ++ untag b
      untag_append a b = map-append (λ t. t.mail) a b

  module _ (t : Table) (lawful : IsLawful (calm_tagged x calm fair)) (stated : IsStated (calm_tagged x calm fair) (tagged_states x s)) where
    abbrev y : Exchange (Rowed V M Q) V (Tagged M Q) (Asked M Q) (Option R)
    y = calm_tagged x calm fair

    abbrev both : Exchange (Counting (Rowed V M Q)) (V × ℕ) (Act (Tagged M Q)) (Service (Asked M Q)) (Outcome (Option R))
    both = with_states y (tagged_states x s) t

    both_lawful : IsLawful both
    both_lawful = stated_law y (tagged_states x s) t stated lawful

    -- the last of services, at the server that those before it leave
    last_right : (v : V) (k : ℕ) (qs : List (Service (Asked M Q))) (q : Service (Asked M Q)) → AllRight x s t v (qs ++ q ∷ []) → AllRight x s t (exec_all both (v, k) qs).0 (q ∷ [])
    last_right v k [] q all = all
    last_right v k (Service.Mails p ∷ qs) q all = last_right (both.exec (v, k) (Service.Mails p)).0 k qs q all.1
    last_right v k (Service.State target ∷ qs) q all = last_right (both.exec (v, k) (Service.State target)).0 (suc k) qs q all

    abbrev SeatHere : Type 0
    SeatHere = Seat (Rowed V M Q) (Tagged M Q) (Asked M Q) (Option R)

    abbrev AccountHere : Type 0
    AccountHere = Account (Asked M Q) (Option R)

    abbrev own : Tagged M Q → Bool
    own k = is_own k.meant

    -- the newest service is that of the newest row
    newest : {from : ℕ} {seat : SeatHere} {a : AccountHere} {taken : List (Act (Tagged M Q))} {rest : List (Tagged M Q)} (g : Ghosts.Rowed y lawful (tagged_states x s) t from seat a taken rest) → newest_of a.started ≡ Some g.now.service
    newest g = ap newest_of (sym g.started ∙ starts_append (g.front ++ g.last) (g.now ∷ [])) ∙ newest_last (starts_of (g.front ++ g.last)) (start_of g.now)

    -- a service by mails is the newest
    by_mails : (from : ℕ) (seat : SeatHere) (a : AccountHere) (taken : List (Act (Tagged M Q))) (rest : List (Tagged M Q)) → y.ready seat.start ≡ true → AllRight x s t (ideal x seat.start) (services_in a.started) →
        (g : Ghosts.Rowed y lawful (tagged_states x s) t from seat a taken rest) (r : Row (Tagged M Q) (Asked M Q) (Option R)) → Shows g.now r → IsPassedNow a.started r
    by_mails from seat a taken rest ready right g r shows m answers e =
        let past = g.front ++ g.last in
        let c = counting seat.start in
        let w = after both.serve c (told_all past) in
        let fits = g.moment.fits in
        let service : g.now.service ≡ Service.Mails (Asked.Passed m answers) = shows.service ∙ ap (λ q. Service.Mails q) e in
        let app : ideal x w.server ≡ (exec_all both (ideal x seat.start, 0) (services past)).0 = ap (λ k. k.0) (settled_app both both_lawful c past ready fits.settled) in
        let all : AllRight x s t (ideal x seat.start) (services past ++ g.now.service ∷ []) =
        subst (AllRight x s t (ideal x seat.start)) (ap services_in (sym g.started) ∙ started_services (past ++ g.now ∷ []) ∙ map-append (λ (k : Row (Act (Tagged M Q)) (Service (Asked M Q)) (Outcome (Option R))). k.service) past (g.now ∷ [])) right in
        let mine = last_right (ideal x seat.start) 0 (services past) g.now.service all in
        let ours : AllRight x s t (ideal x w.server) (Service.Mails (Asked.Passed m answers) ∷ []) = subst (λ q. AllRight x s t (ideal x w.server) (q ∷ [])) service (subst (λ v. AllRight x s t v (g.now.service ∷ [])) (sym app) mine) in
        let begins = heard_begins both both_lawful c past g.now (taken ++ acts rest) taken (acts seat.accepted) fits.settled fits.all_held fits.all_accepted g.moment.order g.moment.hears fits.mine in
        let part : IsPrefixOf (acts (replies r)) (acts (plain own ((y.serve w.server (record { mail = m; meant = Meant.Alone answers })).1 ++ []))) =
        subst (λ l. IsPrefixOf l (acts (plain own ((y.serve w.server (record { mail = m; meant = Meant.Alone answers })).1 ++ [])))) (ap (plain both.speech.emission) shows.heard ∙ plain_acts y.speech.emission r.heard)
        (subst (λ l. IsPrefixOf (plain both.speech.emission g.now.heard) l)
        (ap (λ q. plain both.speech.emission (given both.serve w (both.full w q))) service ∙ ap (plain both.speech.emission) (given_acts y (tagged_states x s) t w (record { mail = m; meant = Meant.Alone answers } ∷ []))
        ∙ plain_acts y.speech.emission (given y.serve w.server (record { mail = m; meant = Meant.Alone answers } ∷ []))) begins) in
        of_part a.started (ideal x w.server) m answers r
        (λ target n. (let no : Some (Service.Mails r.service) ≡ Some (Service.State target) = sym (newest g ∙ ap (λ q. Some q) shows.service) ∙ n in cc)) (left_of (x.ready (ideal x w.server)) (calm (ideal x w.server)) (settled_ready both both_lawful c past ready fits.settled)) ours.0
        (subst (λ l. IsPrefixOf (replies r) (plain own l)) (append-nil (y.serve w.server (record { mail = m; meant = Meant.Alone answers })).1) (begin_acts (replies r) (plain own ((y.serve w.server (record { mail = m; meant = Meant.Alone answers })).1 ++ [])) part))

    -- a state service is
    by_state : (a : AccountHere) (target : ℕ) → newest_of a.started ≡ Some (Service.State target) → (r : Row (Tagged M Q) (Asked M Q) (Option R)) → RestedRow y lawful r → IsPassedNow a.started r
    by_state a target newest r rest m true e = elim rest.done [
      | inl k ↦ PassedNow.rests target newest refl (ap is_some k.0.1)
      | inr k ↦ absurd (let no : true ≡ false = sym k.0 ∙ ap y.speech.handed e in cc)
    ]
    by_state a target newest r rest m false e = elim rest.done [
      | inl k ↦ absurd (let no : false ≡ true = sym k.1 ∙ ap y.speech.handed e in cc)
      | inr k ↦ quiet a.started m r k.1.silent
    ]

    -- AT EACH MOMENT
    pub passed_now : (mores : Tagged M Q → Bool) (begun : ℕ) (is : IsTable t begun) (fs : List (Frame (Tagged M Q))) (seat : SeatHere) (a : AccountHere) → Holds y lawful (tagged_states x s) stated t mores begun is fs seat a →
        AllRight x s t (ideal x seat.start) (services_in a.started) → OfRow (IsPassedNow a.started) seat.side.now
    passed_now mores begun is fs seat a h right = elim h.carried.rows [
      | inl u ↦ subst (OfRow (IsPassedNow a.started)) (sym u.now) tt
      | inr g ↦ elim g.place [
        | inl m ↦ subst (OfRow (IsPassedNow a.started)) (sym m.is) (by_mails (state_over t begun a.over) seat a h.carried.taken h.carried.rest h.ready right g m.row m.shows)
        | inr k ↦ rested g k.target (newest g ∙ ap (λ q. Some q) k.service) seat.side.now k.rested
      ]
    ]
      where
        rested : (g : Ghosts.Rowed y lawful (tagged_states x s) t (state_over t begun a.over) seat a h.carried.taken h.carried.rest) (target : ℕ) → newest_of a.started ≡ Some (Service.State target) → (now : Option (Row (Tagged M Q) (Asked M Q) (Option R))) →
            Rested y lawful seat.side.past now → OfRow (IsPassedNow a.started) now
        rested g target newest None k = tt
        rested g target newest (Some r) k = by_state a target newest r k
