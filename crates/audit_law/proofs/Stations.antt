-- What the datagrams of a capture do to what is known of one station.
use Rattle.std.proofs.Common.{◌≡◌, ℕ, ◌==◌, Bool, true, false, not, ◌&&◌, ◌||◌, if◌then◌else◌, is_some, List, [], ◌∷◌, ◌++◌, length, refl, sym, ap, ◌∙◌, subst, append_assoc, append-nil, Option, Some, None, arith}
use Rattle.std.proofs.lemmas.Bool.Decides.{nat_tests}
use Rattle.mailbox_law.specs.of_ec_fields.Fields.{number_at}
use Rattle.capture_audit.specs.of_mailbox_mail.declared.mail.Mail.{Mail}
use Rattle.capture_audit.specs.declared.access.Access.{Access}
use Rattle.capture_audit.specs.declared.access.Access.TheVariants.{Manager, Mailbox, Other}
use Rattle.capture_audit.specs.declared.access.Manager.{Manager as WhichManager}
use Rattle.capture_audit.specs.declared.access.Manager.TheVariants as managers
use Rattle.capture_audit.specs.declared.access.MailAccess.{MailAccess}
use Rattle.capture_audit.specs.declared.known.Known.{Known}
use Rattle.capture_audit.specs.declared.link.Link.{Link}
use Rattle.capture_audit.specs.declared.station.Seat.{Seat}
use Rattle.capture_audit.specs.declared.station.StationAudit.{StationAudit}
use Rattle.capture_audit.specs.Access.{access_of}
use Rattle.capture_audit.specs.Exchanges.{Sent}
use Rattle.capture_audit.specs.Rules.{link_rule, link_on, mails_sent, mails_accepted, is_done}
use Rattle.capture_audit.specs.Audit.{row_of, changed_at, new_seat, new_station, seat_of, seat_changed, station_changed, with_mails, enables, opened_by, enabled, disabled, managed, other_enabled, opens, station_of, mailbox_rule, rule_by, rule_at, mailbox_met, manager_met, met_by, met}
use Rattle.capture_audit.specs.Causes.{behind, Obeys as KeepsRules}
use Rattle.audit_law.specs.Told.{Told, told_by, told, Obeys, link_behind, sent_by, accepted_by}
use Rattle.audit_law.specs.Openings.{turns_by, turns, Stays, mails_of, AddsMails}

-- ---- rows by a key

module _ {A : Type 0} (key : A → ℕ) (fresh : ℕ → A) (f : A → A) (k : ℕ) where
  same_by : (x : A) (xs : List A) (b : Bool) → (key x == k) ≡ b → (key (f x) == k) ≡ b → (row_of key (fresh k) k (changed_at key (fresh k) f k xs) ≡ f (row_of key (fresh k) k xs))
      → row_of key (fresh k) k (if b then f x ∷ xs else x ∷ changed_at key (fresh k) f k xs) ≡ f (if b then x else row_of key (fresh k) k xs)
  same_by x xs true is on more = rw on refl
  same_by x xs false is on more = rw is more

  -- what was changed at a key is there
  pub same_row : ((x : A) → (key (f x) == k) ≡ (key x == k)) → (key (fresh k) == k) ≡ true → (xs : List A) → row_of key (fresh k) k (changed_at key (fresh k) f k xs) ≡ f (row_of key (fresh k) k xs)
  same_row keeps own [] = rw (keeps (fresh k) ∙ own) refl
  same_row keeps own (x ∷ xs) = same_by x xs (key x == k) refl (keeps x) (same_row keeps own xs)

module _ {A : Type 0} (key : A → ℕ) (fresh : ℕ → A) (f : A → A) (k t : ℕ) where
  other_by : (x : A) (xs : List A) (b : Bool) → (key x == t) ≡ b → ((key x == t) ≡ true → (key x == k) ≡ false) → ((key x == t) ≡ true → (key (f x) == k) ≡ false)
      → row_of key (fresh k) k (changed_at key (fresh t) f t xs) ≡ row_of key (fresh k) k xs
      → row_of key (fresh k) k (if b then f x ∷ xs else x ∷ changed_at key (fresh t) f t xs) ≡ row_of key (fresh k) k (x ∷ xs)
  other_by x xs true is old new more = rw (old is, new is) refl
  other_by x xs false is old new more = ap (λ (r : A). if key x == k then x else r) more

  -- what was changed at another key leaves it
  pub other_row : ((x : A) → (key x == t) ≡ true → (key x == k) ≡ false) → ((x : A) → (key x == t) ≡ true → (key (f x) == k) ≡ false) → (key (fresh t) == t) ≡ true → (xs : List A)
      → row_of key (fresh k) k (changed_at key (fresh t) f t xs) ≡ row_of key (fresh k) k xs
  other_row old new own [] = rw (new (fresh t) own) refl
  other_row old new own (x ∷ xs) = other_by x xs (key x == t) refl (old x) (new x) (other_row old new own xs)

equal_self : (n : ℕ) → (n == n) ≡ true
equal_self n = grind (arith, nat_tests)

-- two stations are one or aren't
other_number : (n t k : ℕ) → (t == k) ≡ false → (n == t) ≡ true → (n == k) ≡ false
other_number n t k differ is = grind (arith, nat_tests)

same_number : (t k : ℕ) → (t == k) ≡ true → t ≡ k
same_number t k is = grind (arith, nat_tests)

-- ---- seats

module _ (f : Seat → Seat) (keeps : (s : Seat) → (f s).station ≡ s.station) where
  pub seat_same : (station : ℕ) (seats : List Seat) → seat_of station (seat_changed f station seats) ≡ f (seat_of station seats)
  seat_same station seats = same_row (λ (s : Seat). s.station) new_seat f station (λ s. ap (λ (n : ℕ). n == station) (keeps s)) (equal_self station) seats

  pub seat_other : (station t : ℕ) (seats : List Seat) → (t == station) ≡ false → seat_of station (seat_changed f t seats) ≡ seat_of station seats
  seat_other station t seats differ =
      other_row (λ (s : Seat). s.station) new_seat f station t (λ s is. other_number s.station t station differ is) (λ s is. ap (λ (n : ℕ). n == station) (keeps s) ∙ other_number s.station t station differ is) (equal_self t) seats

module _ (f : StationAudit → StationAudit) (keeps : (s : StationAudit) → (f s).station ≡ s.station) where
  pub mails_same : (station : ℕ) (rows : List StationAudit) → row_of (λ (s : StationAudit). s.station) (new_station station) station (station_changed f station rows) ≡ f (row_of (λ (s : StationAudit). s.station) (new_station station) station rows)
  mails_same station rows = same_row (λ (s : StationAudit). s.station) new_station f station (λ s. ap (λ (n : ℕ). n == station) (keeps s)) (equal_self station) rows

  pub mails_other : (station t : ℕ) (rows : List StationAudit) → (t == station) ≡ false → row_of (λ (s : StationAudit). s.station) (new_station station) station (station_changed f t rows) ≡ row_of (λ (s : StationAudit). s.station) (new_station station) station rows
  mails_other station t rows differ =
      other_row (λ (s : StationAudit). s.station) new_station f station t (λ s is. other_number s.station t station differ is) (λ s is. ap (λ (n : ℕ). n == station) (keeps s) ∙ other_number s.station t station differ is) (equal_self t) rows

opened_station : (o i : Option ℕ) (s : Seat) → (opened_by o i s).station ≡ s.station
opened_station None i s = refl
opened_station (Some o) None s = refl
opened_station (Some o) (Some i) s = refl

enabled_station : (m : WhichManager) (len : ℕ) (s : Seat) → (enabled m len s).station ≡ s.station
enabled_station managers.Out len s = opened_station (Some len) s.in_len s
enabled_station managers.In len s = opened_station s.out_len (Some len) s

disabled_station : (m : WhichManager) (s : Seat) → (disabled m s).station ≡ s.station
disabled_station managers.Out s = refl
disabled_station managers.In s = refl

managed_by : (b c : Bool) (x y z s : Seat) → x.station ≡ s.station → y.station ≡ s.station → z.station ≡ s.station → (if b then x else if c then y else z).station ≡ s.station
managed_by true c x y z s p q r = p
managed_by false true x y z s p q r = q
managed_by false false x y z s p q r = r

pub managed_station : (m : WhichManager) (d : Sent) (s : Seat) → (managed m d s).station ≡ s.station
managed_station m d s = managed_by (not (enables d.body)) (is_done d.back) _ _ s s (disabled_station m s) (enabled_station m (number_at 2 d.body 2) s) refl

-- ---- a manager that doesn't turn the link leaves it

opened_link : (o i : Option ℕ) (s : Seat) → (is_some o && is_some i) ≡ false → (opened_by o i s).link ≡ s.link
opened_link None i s never = refl
opened_link (Some o) None s never = refl
opened_link (Some o) (Some i) s never = absurd cc

enabled_link : (m : WhichManager) (len : ℕ) (s : Seat) → other_enabled m s ≡ false → (enabled m len s).link ≡ s.link
enabled_link managers.Out len s never = opened_link (Some len) s.in_len s never
enabled_link managers.In len s never = opened_link s.out_len (Some len) s (rw never refl)

managed_link_by : (e done other : Bool) (x y s : Seat) → (not e || (e && (done && other))) ≡ false → (other ≡ false → y.link ≡ s.link) → (if not e then x else if done then y else s).link ≡ s.link
managed_link_by false done other x y s never same = absurd cc
managed_link_by true false other x y s never same = refl
managed_link_by true true true x y s never same = absurd cc
managed_link_by true true false x y s never same = same refl

managed_link : (m : WhichManager) (d : Sent) (s : Seat) → turns_by (Manager m) d s ≡ false → (managed m d s).link ≡ s.link
managed_link m d s never = managed_link_by (enables d.body) (is_done d.back) (other_enabled m s) (disabled m s) (enabled m (number_at 2 d.body 2) s) s never (enabled_link m (number_at 2 d.body 2) s)

-- ---- a station over datagrams

-- what is known of a station behind datagrams: its open link went on by what was told, and its mails stand behind the others
pub record Goes (station : ℕ) (old new : Known) (a : Link) (ts : List Told) : Type 0 where
  pub obeys : Obeys a ts
  pub link : (seat_of station new.seats).link ≡ Some (link_behind a ts)
  pub mails : AddsMails station a ts old new

nothing_more : (s : StationAudit) → s ≡ with_mails [] [] s
nothing_more s = λ i. record s { sent = sym (append-nil s.sent) i; accepted = sym (append-nil s.accepted) i }

-- a datagram that is none of the station's mailboxes
stays_by : (station : ℕ) (old new : Known) (link : Link) → (seat_of station old.seats).link ≡ Some link → (seat_of station new.seats).link ≡ (seat_of station old.seats).link → mails_of station new ≡ mails_of station old → Goes station old new link []
stays_by station old new link is seat mails = record { obeys = tt; link = seat ∙ is; mails = mails ∙ nothing_more (mails_of station old) }

opens_no : (e o : Bool) → (not e || o) ≡ false → o ≡ false
opens_no true o never = never
opens_no false o never = absurd cc

manager_rows : (b : Bool) (station t : ℕ) (rows : List StationAudit) → (t == station) ≡ false
    → row_of (λ (s : StationAudit). s.station) (new_station station) station (if b then station_changed (λ s. s) t rows else rows) ≡ row_of (λ (s : StationAudit). s.station) (new_station station) station rows
manager_rows true station t rows differ = mails_other (λ s. s) (λ s. refl) station t rows differ
manager_rows false station t rows differ = refl

-- the write of a manager
manager_own : (station : ℕ) (k : Known) (d : Sent) (m : WhichManager) (link : Link) → (seat_of station k.seats).link ≡ Some link → station_of d ≡ station → turns_by (Manager m) d (seat_of station k.seats) ≡ false → Goes station k (manager_met m k d) link []
manager_own station k d m link is own never =
    let seat = seat_same (managed m d) (managed_station m d) station k.seats in
    let closed : opens m d (seat_of station k.seats) ≡ false = opens_no (enables d.body) (opens m d (seat_of station k.seats)) never in
    let seats : (seat_of station (manager_met m k d).seats).link ≡ (seat_of station k.seats).link = rw own (ap (λ (s : Seat). s.link) seat ∙ managed_link m d (seat_of station k.seats) never) in
    let rows : mails_of station (manager_met m k d) ≡ mails_of station k = rw (own, closed) refl in
    stays_by station k (manager_met m k d) link is seats rows

manager_other : (station : ℕ) (k : Known) (d : Sent) (m : WhichManager) (link : Link) → (seat_of station k.seats).link ≡ Some link → (station_of d == station) ≡ false → Goes station k (manager_met m k d) link []
manager_other station k d m link is differ =
    stays_by station k (manager_met m k d) link is
    (ap (λ (s : Seat). s.link) (seat_other (managed m d) (managed_station m d) station (station_of d) k.seats differ))
    (manager_rows (opens m d (seat_of (station_of d) k.seats)) station (station_of d) k.stations differ)

-- an access of the station's mailboxes
mailbox_own : (station : ℕ) (k : Known) (d : Sent) (access : MailAccess) (link : Link) → (seat_of station k.seats).link ≡ Some link → station_of d ≡ station → mailbox_rule (seat_of (station_of d) k.seats).link access d ≡ None
    → Goes station k (mailbox_met (seat_of (station_of d) k.seats).link access k d) link (record { access = access; sent = d } ∷ [])
mailbox_own station k d access link is own none =
    let there : (seat_of (station_of d) k.seats).link ≡ Some link = ap (λ (t : ℕ). (seat_of t k.seats).link) own ∙ is in
    let rule : link_rule link access d ≡ None = ap (λ (o : Option Link). mailbox_rule o access d) (sym there) ∙ none in
    let go : Seat → Seat = λ s. record s { link = Some (link_on link access d) } in
    let mails : StationAudit → StationAudit = with_mails (mails_sent link access d) (mails_accepted link access d) in
    let seat : (seat_of station (seat_changed go (station_of d) k.seats)).link ≡ Some (link_on link access d) =
    ap (λ (t : ℕ). (seat_of station (seat_changed go t k.seats)).link) own ∙ ap (λ (s : Seat). s.link) (seat_same go (λ s. refl) station k.seats) in
    let rows : row_of (λ (s : StationAudit). s.station) (new_station station) station (station_changed mails (station_of d) k.stations) ≡ with_mails (sent_by link (record { access = access; sent = d } ∷ [])) (accepted_by link (record { access = access; sent = d } ∷ [])) (mails_of station k) =
    ap (λ (t : ℕ). row_of (λ (s : StationAudit). s.station) (new_station station) station (station_changed mails t k.stations)) own ∙ mails_same mails (λ s. refl) station k.stations
    ∙ (λ i. with_mails (sym (append-nil (mails_sent link access d)) i) (sym (append-nil (mails_accepted link access d)) i) (mails_of station k)) in
    rw there (record { obeys = (rule, tt); link = seat; mails = rows })

mailbox_other : (station : ℕ) (k : Known) (d : Sent) (access : MailAccess) (link : Link) (o : Option Link) → (seat_of station k.seats).link ≡ Some link → (station_of d == station) ≡ false → Goes station k (mailbox_met o access k d) link []
mailbox_other station k d access link None is differ = stays_by station k k link is refl refl
mailbox_other station k d access link (Some other) is differ =
    stays_by station k (mailbox_met (Some other) access k d) link is
    (ap (λ (s : Seat). s.link) (seat_other (λ s. record s { link = Some (link_on other access d) }) (λ s. refl) station (station_of d) k.seats differ))
    (mails_other (with_mails (mails_sent other access d) (mails_accepted other access d)) (λ s. refl) station (station_of d) k.stations differ)

-- a datagram as an access of a station's mailboxes, by whether it is the station's
abbrev told_if : Bool → Access → Sent → List Told
told_if b (Mailbox access) d = if b then (record { access = access; sent = d }) ∷ [] else []
told_if b _ d = []

told_as : (station : ℕ) (x : Access) (d : Sent) → told_by station x d ≡ told_if (station_of d == station) x d
told_as station (Manager m) d = refl
told_as station (Mailbox access) d = refl
told_as station Other d = refl

-- any datagram, by what it is and whether it is the station's
one_by : (station : ℕ) (k : Known) (d : Sent) (x : Access) (b : Bool) (link : Link) → (station_of d == station) ≡ b → (seat_of station k.seats).link ≡ Some link → (b && turns_by x d (seat_of station k.seats)) ≡ false → rule_by x k d ≡ None
    → Goes station k (met_by x k d) link (told_if b x d)
one_by station k d (Manager m) true link own is never none = manager_own station k d m link is (same_number (station_of d) station own) never
one_by station k d (Manager m) false link own is never none = manager_other station k d m link is own
one_by station k d (Mailbox access) true link own is never none = mailbox_own station k d access link is (same_number (station_of d) station own) none
one_by station k d (Mailbox access) false link own is never none = mailbox_other station k d access link (seat_of (station_of d) k.seats).link is own
one_by station k d Other true link own is never none = stays_by station k k link is refl refl
one_by station k d Other false link own is never none = stays_by station k k link is refl refl

one_met : (station : ℕ) (k : Known) (d : Sent) (link : Link) → (seat_of station k.seats).link ≡ Some link → turns station k d ≡ false → rule_at k d ≡ None → Goes station k (met k d) link (told_by station (access_of d.head (length d.body)) d)
one_met station k d link is never none =
    let x = access_of d.head (length d.body) in
    subst (λ (ts : List Told). Goes station k (met k d) link ts) (sym (told_as station x d)) (one_by station k d x (station_of d == station) link refl is never none)

-- ---- one behind the other

behind-told : (a : Link) (xs ys : List Told) → link_behind a (xs ++ ys) ≡ link_behind (link_behind a xs) ys
behind-told a [] ys = refl
behind-told a (x ∷ xs) ys = behind-told (link_on a x.access x.sent) xs ys

obeys-told : (a : Link) (xs ys : List Told) → Obeys a xs → Obeys (link_behind a xs) ys → Obeys a (xs ++ ys)
obeys-told a [] ys o p = p
obeys-told a (x ∷ xs) ys o p = (o.0, obeys-told (link_on a x.access x.sent) xs ys o.1 p)

sent-told : (a : Link) (xs ys : List Told) → sent_by a (xs ++ ys) ≡ sent_by a xs ++ sent_by (link_behind a xs) ys
sent-told a [] ys = refl
sent-told a (x ∷ xs) ys =
    ap (λ (ms : List Mail). mails_sent a x.access x.sent ++ ms) (sent-told (link_on a x.access x.sent) xs ys)
    ∙ sym (append_assoc (mails_sent a x.access x.sent) (sent_by (link_on a x.access x.sent) xs) (sent_by (link_behind (link_on a x.access x.sent) xs) ys))

accepted-told : (a : Link) (xs ys : List Told) → accepted_by a (xs ++ ys) ≡ accepted_by a xs ++ accepted_by (link_behind a xs) ys
accepted-told a [] ys = refl
accepted-told a (x ∷ xs) ys =
    ap (λ (ms : List Mail). mails_accepted a x.access x.sent ++ ms) (accepted-told (link_on a x.access x.sent) xs ys)
    ∙ sym (append_assoc (mails_accepted a x.access x.sent) (accepted_by (link_on a x.access x.sent) xs) (accepted_by (link_behind (link_on a x.access x.sent) xs) ys))

goes_on : (station : ℕ) (one two three : Known) (link : Link) (xs ys : List Told) → Goes station one two link xs → Goes station two three (link_behind link xs) ys → Goes station one three link (xs ++ ys)
goes_on station one two three link xs ys g h =
    let old = mails_of station one in
    record {
      obeys = obeys-told link xs ys g.obeys h.obeys;
      link = h.link ∙ ap Some (sym (behind-told link xs ys));
      mails = h.mails ∙ ap (with_mails (sent_by (link_behind link xs) ys) (accepted_by (link_behind link xs) ys)) g.mails
          ∙ (λ i. record old {
            sent = (append_assoc old.sent (sent_by link xs) (sent_by (link_behind link xs) ys) ∙ ap (λ (ms : List Mail). old.sent ++ ms) (sym (sent-told link xs ys))) i;
            accepted = (append_assoc old.accepted (accepted_by link xs) (accepted_by (link_behind link xs) ys) ∙ ap (λ (ms : List Mail). old.accepted ++ ms) (sym (accepted-told link xs ys))) i;
          });
    }

-- datagrams that obey the rules, over which the station's link stays open
pub goes : (station : ℕ) (ds : List Sent) (k : Known) (link : Link) → (seat_of station k.seats).link ≡ Some link → Stays station k ds → KeepsRules k ds → Goes station k (behind k ds) link (told station ds)
goes station [] k link is stays o = stays_by station k k link is refl refl
goes station (d ∷ ds) k link is stays o =
    let first = one_met station k d link is stays.0 o.0 in
    goes_on station k (met k d) (behind (met k d) ds) link (told_by station (access_of d.head (length d.body)) d) (told station ds) first
    (goes station ds (met k d) (link_behind link (told_by station (access_of d.head (length d.body)) d)) first.link stays.1 o.1)

-- an opening leaves what is known of the station's mails
opened_rows : (b : Bool) (station : ℕ) (rows : List StationAudit) → row_of (λ (s : StationAudit). s.station) (new_station station) station (if b then station_changed (λ s. s) station rows else rows) ≡ row_of (λ (s : StationAudit). s.station) (new_station station) station rows
opened_rows true station rows = mails_same (λ s. s) (λ s. refl) station rows
opened_rows false station rows = refl

pub opened_mails : (station : ℕ) (k : Known) (d : Sent) (m : WhichManager) → station_of d ≡ station → access_of d.head (length d.body) ≡ Manager m → mails_of station (met k d) ≡ mails_of station k
opened_mails station k d m own is = rw (is, own) (opened_rows (opens m d (seat_of station k.seats)) station k.stations)
