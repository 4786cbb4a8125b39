pub mod RoleRights
