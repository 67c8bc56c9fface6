-- WHAT COMES INTO HAND by a master's choice comes into hand where it is seen what is meant by mails: its side of the slave and its account stay the same.
use Rattle.std.proofs.Common.{◌≡◌, inl, inr, ℕ, ◌&&◌, ◌||◌, Bool, true, false, not, is_none, Option, None, Some, option_map, List, [], ◌∷◌, ◌++◌, map, length, refl, ap, ap₂, sym, ◌∙◌, subst, append-nil, arith, if◌then◌else◌}
use Rattle.std.specs.Prelude.{nat_lt}
use Rattle.std.proofs.lemmas.Bool.Decides.{nat_tests}
use Rattle.std.proofs.lemmas.List.{map-append, length-map}
use Rattle.master_hand.specs.of_exchange_model.Exchange.{Exchange, Speech, plain}
use Rattle.master_hand.specs.of_exchange_model.Rows.{Row, begun, ends_unheard, row_told}
use Rattle.few_replies.specs.of_life_model.Lives.{Era, era_next, passing_begins}
use Rattle.few_replies.specs.Calm.{calm_tagged}
use Rattle.few_replies.specs.Client.{ByContents}
use Rattle.few_replies.specs.Erased.{row_seen, side_seen, OfRow, PlanOne}
use Rattle.few_replies.proofs.Naturals.{takes_up}
use Rattle.master_hand.specs.of_segment_model.Ends.{Passing}
use Rattle.master_hand.specs.of_segment_model.Seats.{Side, newest, is_over, side_begins, side_next, side_holds, next_mail}
use Rattle.master_hand.specs.of_serving_model.Tagged.{Tagged, Asked, asked_exec, no_reply}
use Rattle.master_hand.specs.of_serving_model.TaggedStates.{asked_acknowledged}
use Rattle.few_replies.specs.Silent.{is_passed}
use Rattle.master_hand.specs.of_state_model.Stated.{Stated, Service}
use Rattle.master_hand.specs.of_state_model.Promises.{state_behind}
use Rattle.master_hand.specs.of_state_model.States.{Table}
use Rattle.master_hand.specs.of_state_model.Promise.{services_in}
use Rattle.master_hand.specs.of_state_model.Accounts.{Account, Duty, Pick, Started, is_free, is_acknowledged, account_begins, state_begins, starts, mails_begin}
use Rattle.life_counts.specs.Seen.{service_seen, account_seen, era_seen, started_seen}
use Rattle.life_counts.specs.Foreseen.{AllRight, server_behind}
use Rattle.life_counts.specs.Spoken.{Naming, IsScript, IsPassed, IsNamed, Speaks}
use Rattle.life_counts.proofs.Clients.{IsKnown, HasEnded, hands, heard_same, plans, overs}

not_less : (k : ℕ) → nat_lt k k ≡ false
not_less k = grind (arith, nat_tests)

pub both_of : (a b : Bool) → (a && b) ≡ true → (a ≡ true) × (b ≡ true)
both_of true b e = (refl, e)
both_of false b e = absurd (let no : false ≡ true = e in cc)

-- a service that may comes into hand
pub may_begin : {M Q R : Type 0} (x : Speech M Q R) (frame : ℕ) (d : Side M Q R) (now : Option (Row M Q R)) (q : Q) → x.valid q ≡ true → OfRow (λ r. is_over x d.halves.out.holding d.fresh r ≡ true) now →
    side_begins x frame d now (Some q) ≡ record d { past = d.past ++ newest now; now = Some (begun q frame) }
may_begin x frame d None q valid over = ap (λ b. if b then record d { now = Some (begun q frame) } else d) valid ∙ (λ i. record d { past = sym (append-nil d.past) i; now = Some (begun q frame) })
may_begin x frame d (Some r) q valid over = ap₂ (λ (a b : Bool). if a && b then record d { past = d.past ++ r ∷ []; now = Some (begun q frame) } else d) valid over

-- one that may not doesn't
pub may_not : {M Q R : Type 0} (x : Speech M Q R) (frame : ℕ) (d : Side M Q R) (now : Option (Row M Q R)) (q : Q) → (x.valid q && is_free x d now) ≡ false → side_begins x frame d now (Some q) ≡ d
may_not x frame d None q no_ = ap (λ b. if b then record d { now = Some (begun q frame) } else d) (first (x.valid q) no_)
  where
    first : (b : Bool) → (b && true) ≡ false → b ≡ false
    first true e = e
    first false e = refl
may_not x frame d (Some r) q no_ = ap (λ b. if b then record d { past = d.past ++ r ∷ []; now = Some (begun q frame) } else d) no_

pub nothing_begins : {M Q R : Type 0} (x : Speech M Q R) (frame : ℕ) (d : Side M Q R) (now : Option (Row M Q R)) → side_begins x frame d now None ≡ d
nothing_begins x frame d None = refl
nothing_begins x frame d (Some r) = refl

pub free_over : {M Q R : Type 0} (x : Speech M Q R) (d : Side M Q R) (now : Option (Row M Q R)) → is_free x d now ≡ true → OfRow (λ r. is_over x d.halves.out.holding d.fresh r ≡ true) now
free_over x d None e = tt
free_over x d (Some r) e = e

module _ {V M Q R T : Type 0} (x : Exchange V V M Q R) (calm : V → Bool) (fair : M → Bool) (s : Stated V V Q) (n : Naming M Q T R) (speaks : Speaks n x.speech s.acknowledged) where
  abbrev y : Speech (Tagged M Q) (Asked M Q) (Option R)
  y = (calm_tagged x calm fair).speech

  abbrev mail : Tagged M Q → M
  mail t = t.mail

  abbrev same : Option R → Option R
  same r = r

  abbrev pub SideHere : Type 0
  SideHere = Side (Tagged M Q) (Asked M Q) (Option R)

  abbrev pub AccountHere : Type 0
  AccountHere = Account (Asked M Q) (Option R)

  abbrev sees : SideHere → Side M T (Option R)
  sees d = side_seen mail n.name same d

  abbrev counts : AccountHere → Account T (Option R)
  counts a = account_seen mail n.name same a

  abbrev Known : Asked M Q → Type 0
  Known q = IsKnown x calm fair s.acknowledged n speaks.emission q

  -- what is known of the row in hand: its name, and that contents tell what was heard for it
  pub record RowKnown (r : Row (Tagged M Q) (Asked M Q) (Option R)) : Type 0 where
    pub known : Known r.service
    pub by : ByContents x.speech.emission r.heard

  abbrev pub NowKnown : Option (Row (Tagged M Q) (Asked M Q) (Option R)) → Type 0
  NowKnown now = OfRow (λ r. RowKnown r) now

  -- and that its mail is over, where it passes one on
  abbrev pub NowEnded : SideHere → Option (Row (Tagged M Q) (Asked M Q) (Option R)) → Type 0
  NowEnded d now = OfRow (λ r. HasEnded x calm fair s.acknowledged n speaks.emission r.service d.halves.out.holding d.fresh r) now

  -- the side is free for one where it is for the other
  free_seen : (d : SideHere) (now : Option (Row (Tagged M Q) (Asked M Q) (Option R))) → NowKnown now → NowEnded d now → is_free n.speech (sees d) (option_map (λ r. row_seen mail n.name same r) now) ≡ true → is_free y d now ≡ true
  free_seen d None k ended e = refl
  free_seen d (Some r) k ended e = overs x calm fair s.acknowledged n speaks.emission r r.service refl k.known k.by d.halves.out.holding d.fresh ended e

  -- and its last mail's write is done for both
  last_named : (q : Asked M Q) → Known q → n.acknowledged (n.name q) ≡ asked_acknowledged s.acknowledged q
  last_named (Asked.Script q) k = k.last
  last_named (Asked.Passed m answers) k = k.last

  none_box : (box : _) → is_none (Rattle.master_hand.specs.of_serving_model.Erasing.box_as mail box) ≡ is_none box
  none_box None = refl
  none_box (Some m) = refl

  none_answer : (a : Option (Option R × ℕ)) → is_none {T = Option R × ℕ} (option_map (λ (k : Option R × ℕ). (same k.0, k.1)) a) ≡ is_none a
  none_answer None = refl
  none_answer (Some a) = refl

  -- a row ends unheard by its name where it does
  unheard_named : (r : Row (Tagged M Q) (Asked M Q) (Option R)) → RowKnown r → ends_unheard n.speech n.acknowledged (row_seen mail n.name same r) ≡ ends_unheard y (asked_acknowledged s.acknowledged) r
  unheard_named r k =
      let replies : length (plain n.speech.emission (map mail r.heard)) ≡ length (plain y.emission r.heard) =
      ap length (sym (heard_same x calm fair s.acknowledged n speaks.emission r.heard k.by)) ∙ length-map (plain y.emission r.heard) mail in
      let sends : length (n.speech.planned (n.name r.service) (plain n.speech.emission (map mail r.heard))) ≡ length (y.planned r.service (plain y.emission r.heard)) =
      ap length (sym (plans x calm fair s.acknowledged n speaks.emission r.service k.known r.heard k.by)) ∙ length-map (y.planned r.service (plain y.emission r.heard)) mail in
      λ i. last_named r.service k.known i && (none_answer r.answer i || nat_lt (replies i) (sends i))

  last_seen : (d : SideHere) (now : Option (Row (Tagged M Q) (Asked M Q) (Option R))) → NowKnown now → is_acknowledged n.speech n.acknowledged (sees d) (option_map (λ r. row_seen mail n.name same r) now) ≡ is_acknowledged y (asked_acknowledged s.acknowledged) d now
  last_seen d None k = refl
  last_seen d (Some r) k = ap₂ (λ (a b : Bool). if a then b else true) (unheard_named r k) (none_box d.halves.out.holding)

  abbrev pub PlansOf : Option (Row (Tagged M Q) (Asked M Q) (Option R)) → Type 0
  PlansOf now = OfRow (λ r. PlanOne mail n.name same y n.speech r.service r.heard) now

  pub plans_of : (d : SideHere) (now : Option (Row (Tagged M Q) (Asked M Q) (Option R))) → NowKnown now → PlansOf now
  plans_of d None k = tt
  plans_of d (Some r) k = plans x calm fair s.acknowledged n speaks.emission r.service k.known r.heard k.by

  abbrev pub HandsOf : Option (Row (Tagged M Q) (Asked M Q) (Option R)) → Type 0
  HandsOf now = OfRow (λ r. y.handed r.service ≡ true → n.speech.handed (n.name r.service) ≡ true) now

  pub hands_of : (now : Option (Row (Tagged M Q) (Asked M Q) (Option R))) → NowKnown now → HandsOf now
  hands_of None k = tt
  hands_of (Some r) k = hands x calm fair s.acknowledged n speaks.emission r.service k.known

  pub contents_of : (now : Option (Row (Tagged M Q) (Asked M Q) (Option R))) → NowKnown now → OfRow (λ (r : Row (Tagged M Q) (Asked M Q) (Option R)). ByContents x.speech.emission r.heard) now
  contents_of None k = tt
  contents_of (Some r) k = k.by

  abbrev pub LastsOf : Option (Row (Tagged M Q) (Asked M Q) (Option R)) → Type 0
  LastsOf now = OfRow (λ r. ends_unheard n.speech n.acknowledged (row_seen mail n.name same r) ≡ ends_unheard y (asked_acknowledged s.acknowledged) r) now

  pub lasts_of : (now : Option (Row (Tagged M Q) (Asked M Q) (Option R))) → NowKnown now → LastsOf now
  lasts_of None k = tt
  lasts_of (Some r) k = unheard_named r k

  module _ (frame : ℕ) (d : SideHere) (a : AccountHere) (known : NowKnown d.now) where
    abbrev side_begun : Option Duty → Option (Service (Asked M Q)) → SideHere
    side_begun hand w = side_begins y frame d d.now (mails_begin hand w)

    abbrev account_begun : Option Duty → Option (Service (Asked M Q)) → AccountHere
    account_begun hand w = account_begins y (asked_acknowledged s.acknowledged) frame d a hand w

    abbrev side_other : Option Duty → Option (Service T) → Side M T (Option R)
    side_other hand w = side_begins n.speech frame (sees d) (sees d).now (mails_begin hand w)

    abbrev account_other : Option Duty → Option (Service T) → Account T (Option R)
    account_other hand w = account_begins n.speech n.acknowledged frame (sees d) (counts a) hand w

    abbrev passing_mine : Option Duty → Option (Service (Asked M Q)) → Option Passing
    passing_mine hand w = passing_begins y (asked_acknowledged s.acknowledged) (λ t. n.more t.mail) is_passed None a (account_begun hand w) w

    abbrev passing_other : Option Duty → Option (Service T) → Option Passing
    passing_other hand w = passing_begins n.speech n.acknowledged n.more n.passed None (counts a) (account_other hand w) w

    -- THE SAME COMES INTO HAND of both
    pub record Begun (hand : Option Duty) (mine : Option (Service (Asked M Q))) (other : Option (Service T)) : Type 0 where
      pub side : sees (side_begun hand mine) ≡ side_other hand other
      pub row : NowKnown (side_begun hand mine).now
      pub account : counts (account_begun hand mine) ≡ account_other hand other
      pub passing : passing_mine hand mine ≡ passing_other hand other

    -- nothing does
    none_side : (hand : Option Duty) → side_begun hand None ≡ d
    none_side None = nothing_begins y frame d d.now
    none_side (Some duty) = nothing_begins y frame d d.now

    none_account : (hand : Option Duty) → account_begun hand None ≡ a
    none_account None = refl
    none_account (Some duty) = refl

    nothing : (hand : Option Duty) (other : Option (Service T)) → side_other hand other ≡ sees d → account_other hand other ≡ counts a → passing_other hand other ≡ None → Begun hand None other
    nothing hand other side account passing = record {
      side = ap sees (none_side hand) ∙ sym side;
      row = subst (λ (e : SideHere). NowKnown e.now) (sym (none_side hand)) known;
      account = ap counts (none_account hand) ∙ sym account;
      passing = sym passing;
    }

    -- a service does, or a mail that is passed on
    newest_seen : (now : Option (Row (Tagged M Q) (Asked M Q) (Option R))) → map (λ r. row_seen mail n.name same r) (newest now) ≡ newest (option_map (λ r. row_seen mail n.name same r) now)
    newest_seen None = refl
    newest_seen (Some r) = refl

    started_more : (w : Service (Asked M Q)) → map (λ k. started_seen mail n.name same k) (starts a w frame) ≡ starts (counts a) (service_seen n.name w) frame
    started_more w = map-append (λ k. started_seen mail n.name same k) a.started (record { service = w; frame = frame } ∷ [])

    passed_named : (q : Asked M Q) → Known q → n.passed (n.name q) ≡ is_passed q
    passed_named (Asked.Script q) k = k.unpassed
    passed_named (Asked.Passed m answers) k = k.passes

    module _ (ended : NowEnded d d.now) where
      mails_began : (q : Asked M Q) (t : T) → y.valid q ≡ true → (n.speech.valid t && is_free n.speech (sees d) (sees d).now) ≡ true → account_begun None (Some (Service.Mails q)) ≡ record a { started = starts a (Service.Mails q) frame }
      mails_began q t valid may = ap₂ (λ (b c : Bool). if b && c then record a { started = starts a (Service.Mails q) frame } else a) valid
          (free_seen d d.now known ended (both_of (n.speech.valid t) (is_free n.speech (sees d) (sees d).now) may).1)

      mails_begun : (q : Asked M Q) (t : T) → n.name q ≡ t → Known q → y.valid q ≡ true → (n.speech.valid t && is_free n.speech (sees d) (sees d).now) ≡ true → Begun None (Some (Service.Mails q)) (Some (Service.Mails t))
      mails_begun q t e k valid may =
          let parts = both_of (n.speech.valid t) (is_free n.speech (sees d) (sees d).now) may in
          let free = free_seen d d.now known ended parts.1 in
          let mine = may_begin y frame d d.now q valid (free_over y d d.now free) in
          let other = may_begin n.speech frame (sees d) (sees d).now t parts.0 (free_over n.speech (sees d) (sees d).now parts.1) in
          let began = mails_began q t valid may in
          let began_other : account_other None (Some (Service.Mails t)) ≡ record (counts a) { started = starts (counts a) (Service.Mails t) frame } =
          ap (λ (b : Bool). if b then record (counts a) { started = starts (counts a) (Service.Mails t) frame } else counts a) may in
          let account : counts (account_begun None (Some (Service.Mails q))) ≡ account_other None (Some (Service.Mails t)) =
          ap counts began ∙ ap (λ (l : List (Started T)). record (counts a) { started = l }) (started_more (Service.Mails q) ∙ ap (λ z. starts (counts a) (Service.Mails z) frame) e) ∙ sym began_other in
          record {
            side = ap sees mine
                ∙ ap₂ (λ (l : List (Row M T (Option R))) (z : T). record (sees d) { past = l; now = Some (begun z frame) })
                (map-append (λ r. row_seen mail n.name same r) d.past (newest d.now) ∙ ap (λ l. map (λ r. row_seen mail n.name same r) d.past ++ l) (newest_seen d.now)) e ∙ sym other;
            row = subst (λ (z : SideHere). NowKnown z.now) (sym mine) (record { known = k; by = tt });
            account = account;
            passing = ap₂ (λ (b : Bool) (l : ℕ × ℕ). if b && nat_lt l.0 l.1 then Some Passing.Waiting else None) (sym (passed_named q k) ∙ ap n.passed e)
                (ap₂ (λ (i j : ℕ). (i, j)) (sym (length-map a.started (λ z. started_seen mail n.name same z))) (sym (length-map (account_begun None (Some (Service.Mails q))).started (λ z. started_seen mail n.name same z)) ∙ ap (λ (z : Account T (Option R)). length z.started) account));
          }

      -- a state service does
      state_began : (target : ℕ) → (is_free n.speech (sees d) (sees d).now && is_acknowledged n.speech n.acknowledged (sees d) (sees d).now) ≡ true → account_begun None (Some (Service.State target)) ≡ state_begins a target frame
      state_began target may =
          let parts = both_of (is_free n.speech (sees d) (sees d).now) (is_acknowledged n.speech n.acknowledged (sees d) (sees d).now) may in
          ap₂ (λ (b c : Bool). if b && c then state_begins a target frame else a) (free_seen d d.now known ended parts.0) (sym (last_seen d d.now known) ∙ parts.1)

      state_begun : (target : ℕ) → (is_free n.speech (sees d) (sees d).now && is_acknowledged n.speech n.acknowledged (sees d) (sees d).now) ≡ true → Begun None (Some (Service.State target)) (Some (Service.State target))
      state_begun target may =
          let began = state_began target may in
          let began_other : account_other None (Some (Service.State target)) ≡ state_begins (counts a) target frame = ap (λ (b : Bool). if b then state_begins (counts a) target frame else counts a) may in
          record {
            side = ap sees (nothing_begins y frame d d.now) ∙ sym (nothing_begins n.speech frame (sees d) (sees d).now);
            row = subst (λ (z : SideHere). NowKnown z.now) (sym (nothing_begins y frame d d.now)) known;
            account = ap counts began ∙ ap (λ (l : List (Started T)). record (state_begins (counts a) target frame) { started = l }) (started_more (Service.State target)) ∙ sym began_other;
            passing = refl;
          }

      -- THE MASTER'S CHOICE: a mail that is passed on is foreseen as answered just where the server behind all services before it replies to it
      pub record Chosen (table : Table) (v : V) (hand : Option Duty) (other : Option (Service T)) : Type 0 where
        pub mine : Option (Service (Asked M Q))
        pub begun : Begun hand mine other
        pub right : AllRight x s table v (services_in a.started) → AllRight x s table v (services_in (account_begun hand mine).started)

      module _ (table : Table) (v : V) where
        -- one service more
        more_right : (v : V) (qs : List (Service (Asked M Q))) (q : Service (Asked M Q)) → AllRight x s table v qs → AllRight x s table (server_behind x s table v qs) (q ∷ []) → AllRight x s table v (qs ++ q ∷ [])
        more_right v [] q all one = one
        more_right v (Service.Mails p ∷ qs) q all one = (all.0, more_right (asked_exec x v p) qs q all.1 one)
        more_right v (Service.State target ∷ qs) q all one = more_right (s.tell (state_behind table (s.state v) target) v) qs q all one

        starts_right : (b : AccountHere) (q : Service (Asked M Q)) → b.started ≡ starts a q frame → AllRight x s table (server_behind x s table v (services_in a.started)) (q ∷ []) →
            AllRight x s table v (services_in a.started) → AllRight x s table v (services_in b.started)
        starts_right b q e one all =
            subst (AllRight x s table v) (sym (ap services_in e ∙ map-append (λ (z : Started (Asked M Q)). z.service) a.started (record { service = q; frame = frame } ∷ []))) (more_right v (services_in a.started) q all one)

        none_chosen : (hand : Option Duty) (other : Option (Service T)) → Begun hand None other → Chosen table v hand other
        none_chosen hand other b = record { mine = None; begun = b; right = subst (λ (z : AccountHere). AllRight x s table v (services_in a.started) → AllRight x s table v (services_in z.started)) (sym (none_account hand)) (λ all. all) }

        abbrev MayMails : T → Bool
        MayMails t = n.speech.valid t && is_free n.speech (sees d) (sees d).now

        abbrev foreseen : M → Bool
        foreseen m = not (no_reply x.speech.emission (x.serve (server_behind x s table v (services_in a.started)) m).1)

        mails_chosen : (q : Asked M Q) (t : T) → n.name q ≡ t → Known q → y.valid q ≡ true → MayMails t ≡ true → AllRight x s table (server_behind x s table v (services_in a.started)) (Service.Mails q ∷ []) → Chosen table v None (Some (Service.Mails t))
        mails_chosen q t e k valid may one = record {
          mine = Some (Service.Mails q);
          begun = mails_begun q t e k valid may;
          right = starts_right (account_begun None (Some (Service.Mails q))) (Service.Mails q) (ap (λ (z : AccountHere). z.started) (mails_began q t valid may)) one;
        }

        by_name : (t : T) → MayMails t ≡ true → ((m : M) → IsPassed n m t → fair m ≡ true) → IsNamed n x.speech s.acknowledged t → Chosen table v None (Some (Service.Mails t))
        by_name t may fairly (inl k) =
            mails_chosen (Asked.Script k.0) t k.1.named (subst (IsScript n x.speech s.acknowledged k.0) (sym k.1.named) k.1) (sym k.1.valid ∙ (both_of (n.speech.valid t) (is_free n.speech (sees d) (sees d).now) may).0) may (tt, tt)
        by_name t may fairly (inr k) =
            let answers = foreseen k.0 in
            mails_chosen (Asked.Passed k.0 answers) t (k.1.named answers) (subst (IsPassed n k.0) (sym (k.1.named answers)) k.1) (fairly k.0 k.1) may (refl, tt)

        lengths_none : (b : Bool) (k : ℕ) → (if b && nat_lt k k then Some Passing.Waiting else None) ≡ None
        lengths_none true k = ap (λ (b : Bool). if b then Some Passing.Waiting else None) (not_less k)
        lengths_none false k = refl

        pub choose : (hand : Option Duty) (other : Option (Service T)) → ((t : T) (m : M) → other ≡ Some (Service.Mails t) → hand ≡ None → MayMails t ≡ true → IsPassed n m t → fair m ≡ true) → Chosen table v hand other
        choose None None fairly = none_chosen None None (nothing None None (nothing_begins n.speech frame (sees d) (sees d).now) refl refl)
        choose (Some duty) None fairly = none_chosen (Some duty) None (nothing (Some duty) None (nothing_begins n.speech frame (sees d) (sees d).now) refl refl)
        choose (Some duty) (Some (Service.State target)) fairly = none_chosen (Some duty) (Some (Service.State target)) (nothing (Some duty) (Some (Service.State target)) (nothing_begins n.speech frame (sees d) (sees d).now) refl refl)
        choose (Some duty) (Some (Service.Mails t)) fairly =
            none_chosen (Some duty) (Some (Service.Mails t)) (nothing (Some duty) (Some (Service.Mails t)) (nothing_begins n.speech frame (sees d) (sees d).now) refl (lengths_none (n.passed t) (length (counts a).started)))
        choose None (Some (Service.Mails t)) fairly = go (MayMails t) refl
          where
            go : (b : Bool) → MayMails t ≡ b → Chosen table v None (Some (Service.Mails t))
            go true may = by_name t may (λ m k. fairly t m refl refl may k) (speaks.names t)
            go false may =
                let still : account_other None (Some (Service.Mails t)) ≡ counts a = ap (λ (b : Bool). if b then record (counts a) { started = starts (counts a) (Service.Mails t) frame } else counts a) may in
                none_chosen None (Some (Service.Mails t)) (nothing None (Some (Service.Mails t)) (may_not n.speech frame (sees d) (sees d).now t may) still
                (ap (λ (z : Account T (Option R)). if n.passed t && nat_lt (length (counts a).started) (length z.started) then Some Passing.Waiting else None) still ∙ lengths_none (n.passed t) (length (counts a).started)))
        choose None (Some (Service.State target)) fairly = go (is_free n.speech (sees d) (sees d).now && is_acknowledged n.speech n.acknowledged (sees d) (sees d).now) refl
          where
            go : (b : Bool) → (is_free n.speech (sees d) (sees d).now && is_acknowledged n.speech n.acknowledged (sees d) (sees d).now) ≡ b → Chosen table v None (Some (Service.State target))
            go true may = record {
              mine = Some (Service.State target);
              begun = state_begun target may;
              right = starts_right (account_begun None (Some (Service.State target))) (Service.State target) (ap (λ (z : AccountHere). z.started) (state_began target may)) tt;
            }
            go false may = none_chosen None (Some (Service.State target)) (nothing None (Some (Service.State target)) (nothing_begins n.speech frame (sees d) (sees d).now)
                (ap (λ (b : Bool). if b then state_begins (counts a) target frame else counts a) may) refl)

  -- THE EPOCH BEFORE A FRAME
  abbrev EraHere : Type 0
  EraHere = Era (Tagged M Q) (Asked M Q) (Option R)

  abbrev named : EraHere → Era M T (Option R)
  named e = era_seen mail n.name same e

  abbrev next_here : ℕ → EraHere → Pick (Asked M Q) → EraHere
  next_here frame e pick = era_next y (asked_acknowledged s.acknowledged) (λ t. n.more t.mail) is_passed frame e pick

  abbrev next_other : ℕ → EraHere → Pick T → Era M T (Option R)
  next_other frame e pick = era_next n.speech n.acknowledged n.more n.passed frame (named e) pick

  pub record Next (table : Table) (v : V) (frame : ℕ) (e : EraHere) (pick : Pick T) : Type 0 where
    pub mine : Pick (Asked M Q)
    pub is : named (next_here frame e mine) ≡ next_other frame e pick
    pub right : AllRight x s table v (services_in e.account.started) → AllRight x s table v (services_in (next_here frame e mine).account.started)
    pub known : NowKnown (next_here frame e mine).side.now

  -- a mail that is taken up leaves what is known
  holds_known : (d : SideHere) (ms : List (Tagged M Q)) → NowKnown d.now → NowKnown (side_holds d ms).now
  holds_known d [] k = k
  holds_known d (m ∷ ms) k = go d.now k
    where
      go : (now : Option (Row (Tagged M Q) (Asked M Q) (Option R))) → NowKnown now → NowKnown (option_map (λ r. row_told m r) now)
      go None k = tt
      go (Some r) k = record { known = k.known; by = k.by }

  known_next : (frame : ℕ) (d : SideHere) (a : AccountHere) (k : NowKnown d.now) (hand : Option Duty) (mine : Option (Service (Asked M Q))) (other : Option (Service T)) (hold : Bool) → Begun frame d a k hand mine other →
      NowKnown (side_next y frame d (record { begin = mails_begin hand mine; hold = hold })).now
  known_next frame d a k hand mine other hold b =
      let e = side_begins y frame d d.now (mails_begin hand mine) in
      holds_known e (next_mail y e.now e.halves.out.holding hold) b.row

  side_next_is : (frame : ℕ) (d : SideHere) (a : AccountHere) (k : NowKnown d.now) (hand : Option Duty) (mine : Option (Service (Asked M Q))) (other : Option (Service T)) (hold : Bool) → Begun frame d a k hand mine other →
      sees (side_next y frame d (record { begin = mails_begin hand mine; hold = hold })) ≡ side_next n.speech frame (sees d) (record { begin = mails_begin hand other; hold = hold })
  side_next_is frame d a k hand mine other hold b =
      takes_up mail n.name same y n.speech (side_begins y frame d d.now (mails_begin hand mine)) hold (plans_of d (side_begins y frame d d.now (mails_begin hand mine)).now b.row)
      ∙ ap (λ (z : Side M T (Option R)). side_holds z (next_mail n.speech z.now z.halves.out.holding hold)) b.side

  next_by : (table : Table) (v : V) (frame : ℕ) (cleared opened : Option ℕ) (state : ℕ) (d : SideHere) (a : AccountHere) (k : NowKnown d.now) (passing : Option Passing) → (passing ≡ None → NowEnded d d.now) → (pick : Pick T) →
      ((t : T) (m : M) → pick.begin ≡ Some (Service.Mails t) → passing ≡ None → a.hand ≡ None → (n.speech.valid t && is_free n.speech (sees d) (sees d).now) ≡ true → IsPassed n m t → fair m ≡ true) →
      Next table v frame (record { cleared = cleared; opened = opened; state = state; side = d; account = a; passing = passing }) pick
  next_by table v frame cleared opened state d a k None ended pick fairly =
      let c = choose frame d a k (ended refl) table v a.hand pick.begin (λ t m e hand may is. fairly t m e refl hand may is) in
      record {
        mine = record { begin = c.mine; hold = pick.hold };
        is = λ i. record { cleared = cleared; opened = opened; state = state; side = side_next_is frame d a k a.hand c.mine pick.begin pick.hold c.begun i; account = c.begun.account i; passing = c.begun.passing i };
        right = c.right;
        known = known_next frame d a k a.hand c.mine pick.begin pick.hold c.begun;
      }
  next_by table v frame cleared opened state d a k (Some passing) ended pick fairly =
      let c = nothing frame d a k a.hand None (nothing_hand a.hand) (nothing_account a.hand) refl in
      record {
        mine = record { begin = None; hold = pick.hold };
        is = λ i. record { cleared = cleared; opened = opened; state = state; side = side_next_is frame d a k a.hand None None pick.hold c i; account = c.account i; passing = Some passing };
        right = subst (λ (z : AccountHere). AllRight x s table v (services_in a.started) → AllRight x s table v (services_in z.started)) (sym (none_account frame d a k a.hand)) (λ all. all);
        known = known_next frame d a k a.hand None None pick.hold c;
      }
    where
      nothing_hand : (hand : Option Duty) → side_begins n.speech frame (sees d) (sees d).now (mails_begin hand (let w : Option (Service T) = None in w)) ≡ sees d
      nothing_hand None = nothing_begins n.speech frame (sees d) (sees d).now
      nothing_hand (Some duty) = nothing_begins n.speech frame (sees d) (sees d).now

      nothing_account : (hand : Option Duty) → account_begins n.speech n.acknowledged frame (sees d) (counts a) hand None ≡ counts a
      nothing_account None = refl
      nothing_account (Some duty) = refl

  pub next_named : (table : Table) (v : V) (frame : ℕ) (e : EraHere) (pick : Pick T) → NowKnown e.side.now → (e.passing ≡ None → NowEnded e.side e.side.now) →
      ((t : T) (m : M) → pick.begin ≡ Some (Service.Mails t) → e.passing ≡ None → e.account.hand ≡ None → (n.speech.valid t && is_free n.speech (sees e.side) (sees e.side).now) ≡ true → IsPassed n m t → fair m ≡ true) → Next table v frame e pick
  next_named table v frame e pick k ended fairly = next_by table v frame e.cleared e.opened e.state e.side e.account k e.passing ended pick fairly
