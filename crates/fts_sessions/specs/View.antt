-- What a name of INFORMATION_SCHEMA means.
use Rattle.std.specs.Prelude.{ℕ, if◌then◌else◌, List, codes, Option, Some, None}
use Rattle.std.specs.Str.{str_eq_ignore_ascii_case}
use Rattle.fts_listing.specs.declared.kind.ListingKind.{ListingKind}
use Rattle.fts_listing.specs.declared.kind.ListingKind.TheVariants as kind

-- the view of INFORMATION_SCHEMA that has this name, if there is one; names are compared case apart
abbrev pub view_called : List ℕ → Option ListingKind
view_called name =
    if str_eq_ignore_ascii_case name (codes "innodb_ft_index_table") then Some kind.IndexTable
    else (if str_eq_ignore_ascii_case name (codes "innodb_ft_index_cache") then Some kind.IndexCache
    else (if str_eq_ignore_ascii_case name (codes "innodb_ft_deleted") then Some kind.Deleted
    else (if str_eq_ignore_ascii_case name (codes "innodb_ft_being_deleted") then Some kind.BeingDeleted
    else (if str_eq_ignore_ascii_case name (codes "innodb_ft_config") then Some kind.Config
    else (if str_eq_ignore_ascii_case name (codes "innodb_ft_default_stopword") then Some kind.DefaultStopword
    else None)))))

-- the view of this name of a schema
abbrev pub view_of_schema : List ℕ → List ℕ → Option ListingKind
view_of_schema schema view =
    if str_eq_ignore_ascii_case schema (codes "information_schema") then view_called view else None
