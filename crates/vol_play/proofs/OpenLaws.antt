-- A volume that is shared, with or without views, by one session or view for each script.
use Rattle.std.proofs.Common.{◌≡◌, ◌≢◌, ◌∙◌, ℕ, ◌+◌, List, [], ◌∷◌, None, Some, length, map, All, refl, ap, sym, arith}
use Rattle.std.proofs.lemmas.List.Elements.{All-nil}
use Rattle.std.specs.Prelude.{cond, count_by}
use Rattle.vol_scripts.specs.declared.steps.Script.{Script}
use Rattle.vol_scripts.specs.declared.steps.Script.TheVariants as kinds
use Rattle.vol_shared.specs.Opened.{Opened}
use Rattle.vol_shared.specs.Sessions.{Known}
use Rattle.vol_shared.specs.Stored.{Stored, stored_of, unpublished}
use Rattle.vol_shared.specs.Watch.{IsNewView}
use Rattle.vol_views.specs.Views.{Watched}
use Rattle.vol_volume.specs.Volume.{Mounted}
use Rattle.vol_play.specs.Opened.{fresh_session, IsFreshView, IsOpened}
use Rattle.vol_play.specs.Players.{is_session, is_view, wants_session, wants_view}
use Rattle.vol_play.specs.declared.prepare.Prepared.{Prepared}
use Rattle.vol_play.proofs.ListLaws.{counted_first}

-- a volume that is shared without views satisfies `IsOpened`
pub opened_plain : (volume : Mounted) (sessions : ℕ) (shared : Opened) (all : List Known) → shared.stored ≡ stored_of volume → shared.of.book ≡ None
    → shared.sessions ≡ sessions → length all ≡ sessions → All (λ s. s ≡ fresh_session shared) all → IsOpened (stored_of volume) sessions 0 shared all []
opened_plain volume sessions shared all stored plain of count fresh = record {
  stored = ap unpublished stored;
  sessions = of;
  count = count;
  views = refl;
  fresh = fresh;
  fresh_views = All-nil (IsFreshView shared);
  plain = λ none. plain;
  published = λ some. absurd (some refl);
}

-- a volume that is shared with views satisfies `IsOpened`
pub opened_published : (stored : Stored) (sessions views : ℕ) (shared : Opened) (all : List Known) (seen : List Watched) → views ≢ 0
    → unpublished shared.stored ≡ stored → (shared.sessions ≡ sessions) × (length all ≡ sessions) → (shared.views ≡ views) × (length seen ≡ views)
    → All (λ s. s ≡ fresh_session shared) all → All (IsNewView shared.stored) seen → All (λ v. shared.of.book ≡ Some v.book) seen
    → IsOpened stored sessions views shared all seen
opened_published stored sessions views shared all seen some is callers viewers fresh new_views own_views = record {
  stored = is;
  sessions = callers.0;
  count = callers.1;
  views = viewers.1;
  fresh = fresh;
  fresh_views = λ k d lt. record { own = own_views k d lt; fresh = new_views k d lt };
  plain = λ none. absurd (some (sym viewers.1 ∙ ap length none));
  published = λ more. viewers.0 ∙ sym viewers.1;
}

-- the same holds for equal numbers of sessions and views
pub opened_as : (stored : Stored) (sessions views callers viewers : ℕ) (shared : Opened) (all : List Known) (seen : List Watched)
    → sessions ≡ callers → views ≡ viewers → IsOpened stored sessions views shared all seen → IsOpened (unpublished shared.stored) callers viewers shared all seen
opened_as stored sessions views callers viewers shared all seen callers_are viewers_are is = record {
  stored = refl;
  sessions = is.sessions ∙ callers_are;
  count = is.count ∙ callers_are;
  views = is.views ∙ viewers_are;
  fresh = is.fresh;
  fresh_views = is.fresh_views;
  plain = is.plain;
  published = is.published;
}

-- each script is for a session or for a view
one_kind : (script : Script) → cond (is_session script) 1 0 + cond (is_view script) 1 0 ≡ 1
one_kind (kinds.Session steps) = refl
one_kind (kinds.View queries) = refl

pub counted_kinds : (prepared : List Prepared) → count_by wants_session prepared + count_by wants_view prepared ≡ length prepared
counted_kinds [] = refl
counted_kinds (p ∷ ps) = let one = one_kind p.script in let rest = counted_kinds ps in omega (arith, counted_first wants_session p ps, counted_first wants_view p ps)

pub counted_views : (prepared : List Prepared) → count_by is_view (map (λ p. p.script) prepared) ≡ count_by wants_view prepared
counted_views [] = refl
counted_views (p ∷ ps) =
    counted_first is_view p.script (map (λ (q : Prepared). q.script) ps) ∙ ap (λ n. cond (is_view p.script) 1 0 + n) (counted_views ps) ∙ sym (counted_first wants_view p ps)
