-- A DATAGRAM MORE OF A SERVING: its desks and its datagrams behind that.
use Rattle.std.proofs.Common.{◌≡◌, ◌<◌, ◌≤◌, ℕ, zero, suc, ◌+◌, Bool, true, false, Some, List, [], ◌∷◌, ◌++◌, length, map, refl, sym, ap, ◌∙◌, subst, append-nil, append_assoc, length-append, eq-eqb, eqb-true, arith}
use Rattle.std.specs.Prelude.{◌≢◌, ◌==◌, ◌&&◌, cond, filter, if◌then◌else◌, not, slice_get, slice_index_or, All}
use Rattle.std.proofs.lemmas.List.{map-append}
use Rattle.std.proofs.lemmas.List.Elements.{All-nil, All-append, All-cons, All-head, All-map, All-push, All-tail, All-weaker, filter-append}
use Rattle.run_record.specs.of_served_places.Rows.{ToldAll, passed_rows}
use Rattle.run_record.specs.of_life_runs.Served.{Keyed, Serves, asked_at}
use Rattle.run_record.specs.of_life_runs.Told.{Passed}
use Rattle.gateway_core.specs.of_mailbox_mail.declared.mail.Mail.{Mail}
use Rattle.run_record.specs.of_master_node.Wants.{gave_of}
use Rattle.run_record.specs.of_frame_view.Shares.{AllBoth}
use Rattle.run_record.specs.of_exchange_model.Rows.{Row}
use Rattle.run_record.specs.of_link_mails.Body.{Body}
use Rattle.run_record.specs.of_master_duty.Reply.{Reply}
use Rattle.run_record.specs.of_master_hand.Spoken.{Asked}
use Rattle.run_record.specs.of_master_tour.Made.{is_in}
use Rattle.run_record.specs.of_run_book.declared.book.GramIn.{GramIn}
use Rattle.gateway_run.specs.Account.{Owing, waits_at}
use Rattle.gateway_run.specs.Rooms.{AreRising, begun_of, grams_of, has_begun, owed_for, waiting_of}
use Rattle.gateway_run.specs.Replies.{AllDesk, Fares, Fares.dropped, Fares.replies, Fares.waits, HasRow, IsDesk, IsFor, IsHeard, IsLate, IsNew, IsNewest, IsOurs, keyed_in}
use Rattle.gateway_run.specs.Since.{GaveSince, NoneSince, SparedBetween}
use Rattle.gateway_run.specs.declared.desk.Request.{Request}
use Rattle.gateway_run.proofs.Accounts.{get_on}
use Rattle.gateway_run.proofs.Comes.{known_at, ours_known}
use Rattle.gateway_run.proofs.Hands.{both_push, in_head, rises_on, stands_same}
use Rattle.gateway_run.proofs.Rooms.{not_same}

-- NUMBERS BELOW
pub below_out : (n : ℕ) (ns : List ℕ) → All (λ (m : ℕ). m < n) ns → is_in n ns ≡ false
below_out n [] a = refl
below_out n (m ∷ ns) a =
    in_head n m false (not_same n m (λ s. (let less : m < n = All-head (λ (k : ℕ). k < n) m ns a in omega (arith, less, s)))) ns ∙ below_out n ns (All-tail (λ (k : ℕ). k < n) m ns a)

pub none_owed : (n : ℕ) (os : List Owing) → All (λ (o : Owing). o.gram < n) os → owed_for n os ≡ []
none_owed n [] a = refl
none_owed n (o ∷ os) a =
    ap (λ (z : Bool). map (λ (p : Owing). p.mail) (cond z (o ∷ filter (λ (p : Owing). p.gram == n) os) (filter (λ (p : Owing). p.gram == n) os)))
    (not_same o.gram n (λ s. (let less : o.gram < n = All-head (λ (p : Owing). p.gram < n) o os a in omega (arith, less, s))))
    ∙ none_owed n os (All-tail (λ (p : Owing). p.gram < n) o os a)

in_last : (n m : ℕ) (ns : List ℕ) → n ≢ m → is_in n (ns ++ m ∷ []) ≡ is_in n ns
in_last n m [] off = in_head n m false (not_same n m off) []
in_last n m (k ∷ ns) off = ap (λ z. if n == k then true else z) (in_last n m ns off)

pub grams_push : (rs : List Request) (r : Request) → grams_of (rs ++ r ∷ []) ≡ grams_of rs ++ r.gram ∷ []
grams_push rs r = map-append (λ (q : Request). q.gram) rs (r ∷ [])

both_weaker : {S T : Type 0} (P Q : S → T → Type 0) → ((x : S) (y : T) → P x y → Q x y) → (xs : List S) (ys : List T) → AllBoth P xs ys → AllBoth Q xs ys
both_weaker P Q h [] [] a = tt
both_weaker P Q h [] (y ∷ ys) a = absurd a
both_weaker P Q h (x ∷ xs) [] a = absurd a
both_weaker P Q h (x ∷ xs) (y ∷ ys) a = (h x y a.0, both_weaker P Q h xs ys a.1)

-- what stands among the first of these stands there
get_back : {T : Type 0} (xs ys : List T) (k : ℕ) (x : T) → k < length xs → slice_get (xs ++ ys) k ≡ Some x → slice_get xs k ≡ Some x
get_back [] ys k x less e = absurd (omega (arith, less))
get_back (z ∷ xs) ys zero x less e = e
get_back (z ∷ xs) ys (suc k) x less e = get_back xs ys k x (omega (arith, less)) e

late_more : (gs : List GramIn) (g : GramIn) (came : List ℕ) (rows : List (Row Body Asked Reply)) → All (λ (n : ℕ). n < length gs) came → AllBoth (IsLate gs) came rows → AllBoth (IsLate (gs ++ g ∷ [])) came rows
late_more gs g [] [] known a = tt
late_more gs g [] (r ∷ rows) known a = absurd a
late_more gs g (n ∷ came) [] known a = absurd a
late_more gs g (n ∷ came) (r ∷ rows) known a = (
  λ h e. a.0 h (get_back gs (g ∷ []) n h (All-head (λ (n : ℕ). n < length gs) n came known) e),
  late_more gs g came rows (All-tail (λ (n : ℕ). n < length gs) n came known) a.1,
)

both_first : {S T : Type 0} (P : S → T → Type 0) (Q : S → Type 0) → ((x : S) (y : T) → P x y → Q x) → (xs : List S) (ys : List T) → AllBoth P xs ys → All Q xs
both_first P Q h [] ys a = All-nil Q
both_first P Q h (x ∷ xs) [] a = absurd a
both_first P Q h (x ∷ xs) (y ∷ ys) a = All-cons Q x xs (h x y a.0) (both_first P Q h xs ys a.1)

-- A MAIL THAT IS ASKED waits at its slave alone
pub waits_push : (j : ℕ) (rs : List Request) (r : Request) → r.begun ≡ false → r.slave ≡ j → waiting_of j (rs ++ r ∷ []) ≡ waiting_of j rs ++ r ∷ []
waits_push j rs r b s =
    filter-append (waits_at j) rs (r ∷ [])
    ∙ ap (λ (z : Bool). waiting_of j rs ++ cond z (r ∷ []) []) (λ i. eq-eqb r.slave j s i && not (b i))

waits_else : (j : ℕ) (rs : List Request) (r : Request) → r.slave ≢ j → waiting_of j (rs ++ r ∷ []) ≡ waiting_of j rs
waits_else j rs r off =
    filter-append (waits_at j) rs (r ∷ []) ∙ ap (λ (z : Bool). waiting_of j rs ++ cond (z && not r.begun) (r ∷ []) []) (not_same r.slave j off) ∙ append-nil (waiting_of j rs)

begun_same : (j : ℕ) (rs : List Request) (r : Request) → r.begun ≡ false → begun_of j (rs ++ r ∷ []) ≡ begun_of j rs
begun_same j rs r b =
    filter-append (has_begun j) rs (r ∷ []) ∙ ap (λ (z : Bool). begun_of j rs ++ cond z (r ∷ []) []) (ap (λ (z : Bool). (r.slave == j) && z) b ∙ never (r.slave == j)) ∙ append-nil (begun_of j rs)
  where
    never : (z : Bool) → (z && false) ≡ false
    never true = refl
    never false = refl

-- the slaves, one of which a mail is asked of
pub asked_lookup : (place : ℕ) (k : Keyed) (ws : List Serves) (j : ℕ) (w : Serves) → slice_get ws j ≡ Some w → (u : Serves) × (slice_get (asked_at place k ws) j ≡ Some u) × (u.lead ≡ w.lead)
asked_lookup place k [] j w e = absurd (cc)
asked_lookup zero k (x ∷ ws) zero w e = (record x { asked = x.asked ++ k ∷ []; waits = x.waits ++ k ∷ [] }, refl, ap (λ (z : Serves). z.lead) (let same : x ≡ w = cc in same))
asked_lookup zero k (x ∷ ws) (suc j) w e = (w, e, refl)
asked_lookup (suc place) k (x ∷ ws) zero w e = (w, e, refl)
asked_lookup (suc place) k (x ∷ ws) (suc j) w e = asked_lookup place k ws j w e

pub asked_told : (place : ℕ) (k : Keyed) (ws : List Serves) → All ToldAll ws → All ToldAll (asked_at place k ws)
asked_told place k [] a = All-nil ToldAll
asked_told zero k (w ∷ ws) a = All-cons ToldAll (record w { asked = w.asked ++ k ∷ []; waits = w.waits ++ k ∷ [] }) ws (All-head ToldAll w ws a) (All-tail ToldAll w ws a)
asked_told (suc place) k (w ∷ ws) a = All-cons ToldAll w (asked_at place k ws) (All-head ToldAll w ws a) (asked_told place k ws (All-tail ToldAll w ws a))

module _ (gs : List GramIn) (g : GramIn) (os more : List Owing) (quiet : (n : ℕ) → n < length gs → owed_for n (os ++ more) ≡ owed_for n os) where
  abbrev pub all : List GramIn
  all = gs ++ g ∷ []

  abbrev pub now : List Owing
  now = os ++ more

  pub longer : (n : ℕ) → n < length gs → n < length all
  longer n less = let long = length-append gs (g ∷ []) in omega (arith, long, less)

  pub heard_more : (r : Request) → IsHeard gs r → IsHeard all r
  heard_more r h = record { gram = h.gram; there = get_on gs (g ∷ []) r.gram h.gram h.there; queued = h.queued }

  for_more : (r : Request) (k : Keyed) → IsFor gs r k → IsFor all r k
  for_more r k f = record {
    key = f.key;
    of_gram = record { gram = f.of_gram.gram; there = get_on gs (g ∷ []) r.gram f.of_gram.gram f.of_gram.there; queued = f.of_gram.queued };
    asked = f.asked;
    request = f.request;
    same = f.same;
  }

  newest_more : (slave : ℕ) (came : List ℕ) (p : Passed) → IsNewest gs slave came os p → IsNewest all slave came now p
  newest_more slave came p n = record {
    before = n.before;
    number = n.number;
    last = n.last;
    gram = n.gram;
    there = get_on gs (g ∷ []) n.number n.gram n.there;
    queued = n.queued;
    asked = n.asked;
    request = n.request;
    same = n.same;
    owed = quiet n.number (known_at gs n.number n.gram n.there) ∙ n.owed;
  }

  known_waiting : (waiting : List Request) (ks : List Keyed) → AllBoth (IsFor gs) waiting ks → All (λ (r : Request). r.gram < length gs) waiting
  known_waiting waiting ks a = both_first (IsFor gs) (λ (r : Request). r.gram < length gs) (λ r k f. known_at gs r.gram f.of_gram.gram f.of_gram.there) waiting ks a

  -- A DESK stays
  desk_more : (slave : ℕ) (w : Serves) (came : List ℕ) (waiting begun : List Request) → IsDesk gs os slave w came waiting begun → IsDesk all now slave w came waiting begun
  desk_more slave w came waiting begun d = record {
    waits = both_weaker (IsFor gs) (IsFor all) for_more waiting w.waits d.waits;
    in_hand = both_weaker (IsFor gs) (IsFor all) for_more begun (keyed_in w.hand w.lead.lived.life.era.passing) d.in_hand;
    its = d.its;
    newest = λ p e. newest_more slave came p (d.newest p e);
    new = λ k r less. quiet (slice_index_or waiting k r).gram (known_waiting waiting w.waits d.waits k r less) ∙ d.new k r less;
    many = d.many;
    ours = All-weaker (IsOurs gs slave) (IsOurs all slave) (λ n o. record { gram = o.gram; there = get_on gs (g ∷ []) n o.gram o.there; queued = o.queued }) came d.ours;
    rising = d.rising;
    late = late_more gs g came (passed_rows w.lead.lived.life) (ours_known gs slave came d.ours) d.late;
  }

  -- one at which a mail more waits
  desk_asked : (slave : ℕ) (w : Serves) (came : List ℕ) (waiting begun : List Request) (r : Request) (k : Keyed) → IsFor all r k → r.gram ≡ length gs → owed_for (length gs) now ≡ [] → IsDesk gs os slave w came waiting begun →
      IsDesk all now slave (record w { asked = w.asked ++ k ∷ []; waits = w.waits ++ k ∷ [] }) came (waiting ++ r ∷ []) begun
  desk_asked slave w came waiting begun r k f at none d =
      let old = desk_more slave w came waiting begun d in
      record {
        waits = both_push (IsFor all) waiting w.waits r k old.waits f;
        in_hand = old.in_hand;
        its = old.its;
        newest = old.newest;
        new = All-push (IsNew now) waiting r old.new (ap (λ n. owed_for n now) at ∙ none);
        many = old.many;
        ours = old.ours;
        rising = subst AreRising (append_assoc came (grams_of waiting) (r.gram ∷ []) ∙ ap (λ l. came ++ l) (sym (grams_push waiting r)))
            (rises_on (came ++ grams_of waiting) r.gram d.rising (subst (λ n. All (λ (m : ℕ). m < n) (came ++ grams_of waiting)) (sym at)
            (All-append (λ (m : ℕ). m < length gs) came (grams_of waiting) (ours_known gs slave came d.ours) (All-map (λ (m : ℕ). m < length gs) (λ (q : Request). q.gram) waiting (known_waiting waiting w.waits d.waits)))));
        late = old.late;
      }

  -- of all from a place on, where none of theirs is asked
  pub desks_more : (rs rs' : List Request) (i : ℕ) (ws : List Serves) (nss : List (List ℕ)) → ((j : ℕ) → i ≤ j → (waiting_of j rs' ≡ waiting_of j rs) × (begun_of j rs' ≡ begun_of j rs)) → AllDesk gs rs os i ws nss → AllDesk all rs' now i ws nss
  desks_more rs rs' i [] [] same d = tt
  desks_more rs rs' i [] (ns ∷ nss) same d = absurd d
  desks_more rs rs' i (w ∷ ws) [] same d = absurd d
  desks_more rs rs' i (w ∷ ws) (ns ∷ nss) same d =
      let here = same i (omega arith) in (
        subst (λ bs. IsDesk all now i w ns (waiting_of i rs') bs) (sym here.1) (subst (λ qs. IsDesk all now i w ns qs (begun_of i rs)) (sym here.0) (desk_more i w ns (waiting_of i rs) (begun_of i rs) d.0)),
        desks_more rs rs' (suc i) ws nss (λ j less. same j (omega (arith, less))) d.1,
      )

  -- and one of which one is
  module _ (rs : List Request) (r : Request) (k : Keyed) (new : r.begun ≡ false) (f : IsFor all r k) (at : r.gram ≡ length gs) (none : owed_for (length gs) now ≡ []) where
    else_same : (j : ℕ) → r.slave ≢ j → (waiting_of j (rs ++ r ∷ []) ≡ waiting_of j rs) × (begun_of j (rs ++ r ∷ []) ≡ begun_of j rs)
    else_same j off = (waits_else j rs r off, begun_same j rs r new)

    pub desks_asked : (i place : ℕ) (ws : List Serves) (nss : List (List ℕ)) → r.slave ≡ i + place → AllDesk gs rs os i ws nss → AllDesk all (rs ++ r ∷ []) now i (asked_at place k ws) nss
    desks_asked i place [] [] s d = tt
    desks_asked i place [] (ns ∷ nss) s d = absurd d
    desks_asked i place (w ∷ ws) [] s d = absurd d
    desks_asked i zero (w ∷ ws) (ns ∷ nss) s d =
        let here : r.slave ≡ i = omega (arith, s) in (
          subst (λ bs. IsDesk all now i (record w { asked = w.asked ++ k ∷ []; waits = w.waits ++ k ∷ [] }) ns (waiting_of i (rs ++ r ∷ [])) bs) (sym (begun_same i rs r new))
              (subst (λ qs. IsDesk all now i (record w { asked = w.asked ++ k ∷ []; waits = w.waits ++ k ∷ [] }) ns qs (begun_of i rs)) (sym (waits_push i rs r new here))
              (desk_asked i w ns (waiting_of i rs) (begun_of i rs) r k f at none d.0)),
          desks_more rs (rs ++ r ∷ []) (suc i) ws nss (λ j less. else_same j (λ e. omega (arith, e, here, less))) d.1,
        )
    desks_asked i (suc place) (w ∷ ws) (ns ∷ nss) s d =
        let off : r.slave ≢ i = (λ e. omega (arith, e, s)) in
        let same = else_same i off in (
          subst (λ bs. IsDesk all now i w ns (waiting_of i (rs ++ r ∷ [])) bs) (sym same.1) (subst (λ qs. IsDesk all now i w ns qs (begun_of i rs)) (sym same.0) (desk_more i w ns (waiting_of i rs) (begun_of i rs) d.0)),
          desks_asked (suc i) place ws nss (omega (arith, s)) d.1,
        )

    -- WHAT AN EARLIER DATAGRAM GOT
    pub fares_asked : (j n heard : ℕ) (w u : Serves) (came : List ℕ) (done : Bool) (asked : Mail) (mails : List Mail) → u.lead ≡ w.lead → n < length gs → Fares w came (waiting_of j rs) (begun_of j rs) done n heard asked mails →
        Fares u came (waiting_of j (rs ++ r ∷ [])) (begun_of j (rs ++ r ∷ [])) done n heard asked mails
    fares_asked j n heard w u came done asked mails lead less fares = by fares
      where
        same_in : is_in n (grams_of (waiting_of j (rs ++ r ∷ []))) ≡ is_in n (grams_of (waiting_of j rs))
        same_in = go (r.slave == j) refl
          where
            go : (b : Bool) → (r.slave == j) ≡ b → is_in n (grams_of (waiting_of j (rs ++ r ∷ []))) ≡ is_in n (grams_of (waiting_of j rs))
            go true e = ap (λ l. is_in n (grams_of l)) (waits_push j rs r new (eqb-true r.slave j e)) ∙ ap (is_in n) (grams_push (waiting_of j rs) r) ∙ in_last n r.gram (grams_of (waiting_of j rs)) (λ s. omega (arith, s, at, less))
            go false e = ap (λ l. is_in n (grams_of l)) (waits_else j rs r (λ s. (let bad : true ≡ false = sym (eq-eqb r.slave j s) ∙ e in cc)))

        begun_is : begun_of j (rs ++ r ∷ []) ≡ begun_of j rs
        begun_is = begun_same j rs r new

        gave : gave_of u.lead ≡ gave_of w.lead
        gave = ap (λ z. gave_of z) lead

        row_is : (told : List Body) → HasRow w came n asked told → HasRow u came n asked told
        row_is told row = record {
          index = row.index;
          its = row.its;
          row = row.row;
          is = ap (λ z. slice_get (passed_rows z.lived.life) row.index) lead ∙ row.is;
          mail = row.mail;
          same = row.same;
          service = row.service;
          rest = row.rest;
          heard = row.heard;
        }

        by : Fares w came (waiting_of j rs) (begun_of j rs) done n heard asked mails → Fares u came (waiting_of j (rs ++ r ∷ [])) (begun_of j (rs ++ r ∷ [])) done n heard asked mails
        by (waits a b none c) = waits (same_in ∙ a) b (subst (NoneSince heard) (sym gave) none) c
        by (dropped a b c d given m) = dropped (same_in ∙ a) (ap (λ l. is_in n (grams_of l)) begun_is ∙ b) c d (subst (GaveSince heard) (sym gave) given) m
        by (replies told row spared stands m) =
            replies told (row_is told row) (subst (SparedBetween heard row.row.frame) (sym gave) spared)
            (stands_same w u (begun_of j rs) (begun_of j (rs ++ r ∷ [])) n row.row.frame told done gave (λ here. ap (λ l. is_in n (grams_of l)) begun_is ∙ here) stands) m
