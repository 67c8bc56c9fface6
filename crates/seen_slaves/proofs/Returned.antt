-- What a frame tells a station: so do its return, and the slave's own datagrams alone.
use Rattle.std.proofs.Common.{◌≡◌, ℕ, ◌==◌, ◌||◌, Bool, true, false, List, [], ◌∷◌, ◌++◌, refl, sym, ap, ◌∙◌, if◌then◌else◌}
use Rattle.idle_slaves.specs.of_life_model.Own.{own}
use Rattle.idle_slaves.specs.of_link_mails.Body.{Body}
use Rattle.idle_slaves.proofs.of_master_tour.Unders.{SameAim}
use Rattle.idle_slaves.specs.of_segment_model.Record.{all_told, is_for, last_told, mail_told, told_behind}
use Rattle.idle_slaves.specs.of_segment_model.Returned.{Returns}
use Rattle.idle_slaves.specs.of_segment_model.Seats.{is_write, writes}
use Rattle.idle_slaves.specs.of_segment_model.Slaves.{Datagram, grams}

-- both tell a station the same
pub record SameTold (station last : ℕ) (ds es : List (Datagram Body)) : Type 0 where
  pub told : all_told station last (grams ds) ≡ all_told station last (grams es)
  pub behind : told_behind station last (grams ds) ≡ told_behind station last (grams es)
  pub writes_is : writes station (grams ds) ≡ writes station (grams es)

-- the return of a frame
pub returned_told : (station last : ℕ) (sent back : List (Datagram Body)) → Returns sent back → SameTold station last sent back
returned_told station last [] [] r = record { told = refl; behind = refl; writes_is = refl }
returned_told station last [] (b ∷ back) r = absurd r
returned_told station last (s ∷ sent) [] r = absurd r
returned_told station last (s ∷ sent) (b ∷ back) r =
    let next : ℕ = (if s.gram.station == station then last_told last s.gram.ask else last) in
    let k : SameTold station next sent back = returned_told station next sent back r.1 in
    record {
      told = ap (λ (l : List Body). (if s.gram.station == station then mail_told last s.gram.ask else []) ++ l) k.told
          ∙ sym (λ i. (if r.0.station i == station then mail_told last (r.0.ask i) else []) ++ all_told station (if r.0.station i == station then last_told last (r.0.ask i) else last) (grams back));
      behind = k.behind ∙ sym (λ i. told_behind station (if r.0.station i == station then last_told last (r.0.ask i) else last) (grams back));
      writes_is = ap (λ (w : Bool). if s.gram.station == station then is_write s.gram.ask || w else w) k.writes_is
          ∙ sym (λ i. if r.0.station i == station then is_write (r.0.ask i) || writes station (grams back) else writes station (grams back));
    }

-- the slave's own datagrams
pub own_told : (station last : ℕ) (ds : List (Datagram Body)) → SameAim station ds → SameTold station last (own station ds) ds
own_told station last [] a = record { told = refl; behind = refl; writes_is = refl }
own_told station last (d ∷ ds) a = go (is_for station d.address) refl (own_told station (if d.gram.station == station then last_told last d.gram.ask else last) ds a.1) (own_told station last ds a.1)
  where
    next : ℕ
    next = if d.gram.station == station then last_told last d.gram.ask else last

    go : (b : Bool) → is_for station d.address ≡ b → SameTold station next (own station ds) ds → SameTold station last (own station ds) ds → SameTold station last (if b then d ∷ own station ds else own station ds) (d ∷ ds)
    go true e k here = record {
      told = ap (λ (l : List Body). (if d.gram.station == station then mail_told last d.gram.ask else []) ++ l) k.told;
      behind = k.behind;
      writes_is = ap (λ (w : Bool). if d.gram.station == station then is_write d.gram.ask || w else w) k.writes_is;
    }
    go false e k here =
        let other : (d.gram.station == station) ≡ false = sym a.0 ∙ e in
        record {
          told = here.told ∙ sym (ap (λ (b : Bool). (if b then mail_told last d.gram.ask else []) ++ all_told station (if b then last_told last d.gram.ask else last) (grams ds)) other);
          behind = here.behind ∙ sym (ap (λ (b : Bool). told_behind station (if b then last_told last d.gram.ask else last) (grams ds)) other);
          writes_is = here.writes_is ∙ sym (ap (λ (b : Bool). if b then is_write d.gram.ask || writes station (grams ds) else writes station (grams ds)) other);
        }
