-- The datagrams that a side sends, as frames see them.
use Rattle.std.proofs.Common.{◌≡◌, ℕ, suc, zero, ◌<◌, ◌==◌, List, [], ◌∷◌, Bool, true, false, Option, Some, None, refl, sym, ap, ◌∙◌, subst, eq-eqb, length, replicate, arith, leb-true, le_refl, ◌^◌, ◌%◌, ◌/◌, ◌+◌, ◌*◌, nat_le}
use Rattle.std.proofs.lemmas.List.{length-replicate}
use Rattle.std.specs.Prelude.{if◌then◌else◌, Ok, option_map, not, is_none, IsSome}
use Rattle.byteorder.specs.Endian.{little_bytes}
use Rattle.master_duty.specs.of_ec_fields.Fields.{number_at, bits_of}
use Rattle.mailbox_master.specs.of_datagrams.declared.head.Head.{Head}
use Rattle.mailbox_master.specs.of_datagrams.Datagram as Raw
use Rattle.master_duty.specs.of_mailbox_mail.declared.mail.Mail.{Mail}
use Rattle.master_duty.specs.of_mailbox_mail.Area.{mail_area}
use Rattle.master_duty.specs.of_mailbox_mail.Mail.{mail_read}
use Rattle.mailbox_master.specs.of_link_mails.Body.{Body, link_mail, link_read}
use Rattle.mailbox_master.specs.of_link_model.Master.{InHalf}
use Rattle.mailbox_master.specs.of_link_model.Link.{Halves}
use Rattle.mailbox_master.specs.of_link_model.Frames.{Ask, in_ask}
use Rattle.master_duty.specs.of_segment_model.Slaves as Slaves
use Rattle.master_duty.specs.of_segment_model.Slaves.{Access, Datagram}
use Rattle.master_duty.specs.of_state_model.Accounts
use Rattle.master_duty.specs.of_state_model.Accounts.{duty_access, stage_access}
use Rattle.frame_view.specs.View.{Lens, datagram_seen}
use Rattle.mailbox_master.specs.declared.halves.InwardHalf.{InwardHalf}
use Rattle.mailbox_master.specs.declared.halves.InwardHalf.TheVariants.{Clear, Doubt, Asked, Refetch}
use Rattle.mailbox_master.specs.Links.{OutLink}
use Rattle.mailbox_master.specs.Any.{in_half_of, in_station, in_area_len}
use Rattle.mailbox_master.specs.Access.{access_head, write_access}
use Rattle.mailbox_master.specs.Seat.{ReadsAs}
use Rattle.master_duty.specs.declared.duty.Duty.{Duty}
use Rattle.master_duty.specs.declared.stage.Errand.{Errand}
use Rattle.master_duty.specs.declared.stage.Met.{Met}
use Rattle.master_duty.specs.Stages.{stage_of, errand_of, access_of, errand_access}
use Rattle.master_side.specs.declared.carried.Carried.{Carried}
use Rattle.master_side.specs.Carried.{Meant, errand_carried, in_hand}
use Rattle.master_side.specs.Sent.{IsSent, IsWord, write_gram, inward_gram, errand_gram, duty_gram, visit_gram, full_head}
use Rattle.mailbox_master.specs.of_datagrams.Frame.{datagram_of}
use Rattle.master_side.specs.Shown.{DutyShows}

-- a number of 16 bits is that of its two octets
two_number : (v : ℕ) → v < 2 ^ 16 → v % 256 + 256 * (v / 256 % 256 + 256 * 0) ≡ v
two_number v h = omega arith

whole : {T : Type 0} (a b : ℕ) (t e : T) → a ≡ b → (if a == b then t else e) ≡ t
whole a b t e p = ap (λ (z : Bool). if z then t else e) (eq-eqb a b p)

pub write_meant : (lens : ℕ → Lens) (index : ℕ) (out : OutLink (Option Mail)) (m : Mail) (station : ℕ) (h : Halves Body) (due : Option Access) → out.station ≡ station → (lens station).out ≡ out.len → out.state ≡ Some m →
    (mail_read (mail_area out.len m) ≡ Ok m) × (length (mail_area out.len m) ≡ out.len) → h.out.holding ≡ option_map link_mail out.state → Meant station Carried.Write h due (datagram_seen lens (write_gram index out out.state))
write_meant lens index out m station h due q l e (r, n) k =
    subst (λ (z : Option Mail). Meant station Carried.Write h due (datagram_seen lens (write_gram index out z))) (sym e)
    (record {
      station_is = q;
      address = ap Slaves.Address.Station q;
      asks = (link_mail m, ask, k ∙ ap (option_map link_mail) e, refl);
    })
  where
    ask : (datagram_seen lens (write_gram index out (Some m))).gram.ask ≡ Ask.WriteMail (link_mail m)
    ask = whole (length (mail_area out.len m)) (lens out.station).out (Ask.WriteMail (link_read (mail_read (mail_area out.len m)))) Ask.Other (n ∙ sym l ∙ ap (λ s. (lens s).out) (sym q)) ∙ ap (λ z. Ask.WriteMail (link_read z)) r

in_meant : (lens : ℕ → Lens) (inn : InwardHalf) (index : ℕ) (h : Halves Body) (due : Option Access) → (lens (in_station inn)).back ≡ in_area_len inn → h.inn ≡ in_half_of inn → Meant (in_station inn) Carried.Inward h due (datagram_seen lens (inward_gram index inn))
in_meant lens (Clear i) index h due l e = record { station_is = refl; address = refl; asks = (whole (length {A = ℕ} (replicate i.len 0)) (lens i.station).back Ask.ReadMail Ask.Other (length-replicate i.len 0 ∙ sym l) ∙ ap (λ (z : InHalf). in_ask z.state z.bit) (sym e), refl) }
in_meant lens (Refetch i) index h due l e = record { station_is = refl; address = refl; asks = (whole (length {A = ℕ} (replicate i.len 0)) (lens i.station).back Ask.ReadMail Ask.Other (length-replicate i.len 0 ∙ sym l) ∙ ap (λ (z : InHalf). in_ask z.state z.bit) (sym e), refl) }
in_meant lens (Asked i) index h due l e = record { station_is = refl; address = refl; asks = (ap (λ (z : InHalf). in_ask z.state z.bit) (sym e), refl) }
in_meant lens (Doubt i) index h due l e = record { station_is = refl; address = refl; asks = (bit i.bit refl ∙ ap (λ (z : InHalf). in_ask z.state z.bit) (sym e), refl) }
  where
    bit : (b : Bool) → i.bit ≡ b → (datagram_seen lens (inward_gram index (Doubt i))).gram.ask ≡ Ask.WriteRequest i.bit
    bit true k = subst (λ (z : Bool). (datagram_seen lens (inward_gram index (Doubt (record i { bit = z })))).gram.ask ≡ Ask.WriteRequest z) (sym k) refl
    bit false k = subst (λ (z : Bool). (datagram_seen lens (inward_gram index (Doubt (record i { bit = z })))).gram.ask ≡ Ask.WriteRequest z) (sym k) refl

pub inward_meant : (lens : ℕ → Lens) (inn : InwardHalf) (index station : ℕ) (h : Halves Body) (due : Option Access) → in_station inn ≡ station → (lens station).back ≡ in_area_len inn → h.inn ≡ in_half_of inn → Meant station Carried.Inward h due (datagram_seen lens (inward_gram index inn))
inward_meant lens inn index station h due q l k =
    subst (λ n. Meant n Carried.Inward h due (datagram_seen lens (inward_gram index inn))) q (in_meant lens inn index h due (ap (λ n. (lens n).back) q ∙ l) k)

pub inward_sent : (index area : ℕ) (inn : InwardHalf) → nat_le 64 (in_area_len inn) ≡ true → nat_le (in_area_len inn) area ≡ true → IsSent area (inward_gram index inn)
inward_sent index area (Clear i) least most = record {
  counter = refl;
  sized = refl;
  named = tt;
  some = (let n = length-replicate {A = ℕ} i.len 0 in let l = leb-true 64 i.len least in omega (arith, n, l));
  fits = (let n = length-replicate {A = ℕ} i.len 0 in let l = leb-true i.len area most in omega (arith, n, l));
}
inward_sent index area (Refetch i) least most = record {
  counter = refl;
  sized = refl;
  named = tt;
  some = (let n = length-replicate {A = ℕ} i.len 0 in let l = leb-true 64 i.len least in omega (arith, n, l));
  fits = (let n = length-replicate {A = ℕ} i.len 0 in let l = leb-true i.len area most in omega (arith, n, l));
}
inward_sent index area (Asked i) least most = record { counter = refl; sized = refl; named = tt; some = le_refl 1; fits = (let l = leb-true 64 i.len least in let m = leb-true i.len area most in omega (arith, l, m)) }
inward_sent index area (Doubt i) least most = record { counter = refl; sized = refl; named = tt; some = le_refl 1; fits = (let l = leb-true 64 i.len least in let m = leb-true i.len area most in omega (arith, l, m)) }

pub full_meant : (lens : ℕ → Lens) (station index : ℕ) (h : Halves Body) (due : Option Access) → Meant station Carried.Full h due (datagram_seen lens (datagram_of (full_head station index) (0 ∷ [])))
full_meant lens station index h due = record { station_is = refl; address = refl; asks = (refl, refl) }

not_zero : (n : ℕ) → n < 2 → not (n == 0) ≡ (n == 1)
not_zero zero l = refl
not_zero (suc zero) l = refl
not_zero (suc (suc n)) l = absurd (omega (arith, l))

bit_small : (word : ℕ) → bits_of word 4 1 < 2
bit_small word = omega (arith)

pub errand_meant : (lens : ℕ → Lens) (station index : ℕ) (errand : Errand) (h : Halves Body) (due : Option Access) → IsWord errand → due ≡ Some (access_of errand) →
    Meant station (errand_carried errand) h due (datagram_seen lens (errand_gram station index (Some errand)))
errand_meant lens station index (Errand.Write word) h due w u =
    let read = two_number word w in
    let bit : not (bits_of word 4 1 == 0) ≡ (bits_of word 4 1 == 1) = not_zero (bits_of word 4 1) (bit_small word) in
    record {
      station_is = refl;
      address = refl;
      asks = (
        bits_of (number_at 2 (little_bytes 2 word) 0) 0 4,
        not (bits_of (number_at 2 (little_bytes 2 word) 0) 4 1 == 0),
        refl,
        u ∙ (λ i. Some (Access.SetControl (bits_of ((sym read) i) 0 4) ((sym bit) i))) ∙ (λ i. Some (Access.SetControl (bits_of (number_at 2 (little_bytes 2 word) 0) 0 4) (not (bits_of ((sym read) i) 4 1 == 0)))),
        refl,
      );
    }
errand_meant lens station index Errand.ReadStatus h due w u = record { station_is = refl; address = refl; asks = (refl, u, refl) }

-- the access that is due
pub due_is : (duty : Option Duty) (d : Duty) (hand : Option Accounts.Duty) (o : Option Errand) (e : Errand) → duty ≡ Some d → DutyShows duty hand → o ≡ Some e → errand_access o ≡ stage_access d.target (stage_of d.stage) → duty_access hand ≡ Some (access_of e)
due_is duty d hand o e is s k a = let (frame, t) = subst (λ (z : Option Duty). DutyShows z hand) is s in ap duty_access t ∙ sym a ∙ ap errand_access k

-- the datagram of a mail held, by what its halves are
pub write_begun : (index : ℕ) (out : OutLink (Option Mail)) (head : Head) (body : List ℕ) (P : Raw.Datagram → Type 0) → IsSome out.state → ((m : Mail) → out.state ≡ Some m → head ≡ access_head out.station index (write_access out.len m)) →
    ((m : Mail) → out.state ≡ Some m → body ≡ mail_area out.len m) → P (datagram_of head body) → P (write_gram index out out.state)
write_begun index out head body P some h b p = go out.state refl some
  where
    go : (o : Option Mail) → out.state ≡ o → IsSome o → P (write_gram index out o)
    go None e s = absurd (cc)
    go (Some m) e s = subst P (λ i. datagram_of (h m e i) (b m e i)) p

-- what the write of a mail held is as it is sent
pub write_sent : (index area : ℕ) (out : OutLink (Option Mail)) → IsSome out.state → ((m : Mail) → out.state ≡ Some m → ReadsAs out.len m) → nat_le 64 out.len ≡ true → nat_le out.len area ≡ true →
    IsSent area (write_gram index out out.state)
write_sent index area out some reads least most = go out.state refl some
  where
    go : (o : Option Mail) → out.state ≡ o → IsSome o → IsSent area (write_gram index out o)
    go None e s = absurd (cc)
    go (Some m) e s = record {
      counter = refl;
      sized = refl;
      named = tt;
      some = (let n = (reads m e).1 in let l = leb-true 64 out.len least in omega (arith, n, l));
      fits = (let n = (reads m e).1 in let l = leb-true out.len area most in omega (arith, n, l));
    }

pub held_meant : (lens : ℕ → Lens) (index : ℕ) (out : OutLink (Option Mail)) (station : ℕ) (h : Halves Body) (due : Option Access) → out.station ≡ station → (lens station).out ≡ out.len → is_none out.state ≡ false →
    ((m : Mail) → out.state ≡ Some m → (mail_read (mail_area out.len m) ≡ Ok m) × (length (mail_area out.len m) ≡ out.len)) → h.out.holding ≡ option_map link_mail out.state → Meant station Carried.Write h due (datagram_seen lens (write_gram index out out.state))
held_meant lens index out station h due q l some r k = go out.state refl some
  where
    go : (o : Option Mail) → out.state ≡ o → is_none o ≡ false → Meant station Carried.Write h due (datagram_seen lens (write_gram index out out.state))
    go None e s = absurd (cc)
    go (Some m) e s = write_meant lens index out m station h due q l e (r m e) k

-- that of a state service
pub errand_visit : (lens : ℕ → Lens) (station index : ℕ) (out : OutLink (Option Mail)) (inn : InwardHalf) (duty : Option Met) (d : Duty) (o : Option Errand) (e : Errand) (carried : Carried) (h : Halves Body) (hand : Option Accounts.Duty) →
    in_hand duty ≡ Some d → o ≡ Some e → o ≡ errand_of d.stage → errand_access o ≡ stage_access d.target (stage_of d.stage) → carried ≡ errand_carried e → IsWord e → DutyShows (in_hand duty) hand →
    Meant station carried h (duty_access hand) (datagram_seen lens (visit_gram station index out inn duty carried))
errand_visit lens station index out inn duty d o e carried h hand is some of a c w s =
    subst (λ (k : Carried). Meant station k h (duty_access hand) (datagram_seen lens (visit_gram station index out inn duty k))) (sym c)
    (subst (λ (r : Raw.Datagram). Meant station (errand_carried e) h (duty_access hand) (datagram_seen lens r)) (sym (kind e ∙ ap (duty_gram station index) is ∙ ap (errand_gram station index) (sym of ∙ some)))
    (errand_meant lens station index e h (duty_access hand) w (due_is (in_hand duty) d hand o e is s some a)))
  where
    kind : (z : Errand) → visit_gram station index out inn duty (errand_carried z) ≡ duty_gram station index (in_hand duty)
    kind (Errand.Write word) = refl
    kind Errand.ReadStatus = refl
