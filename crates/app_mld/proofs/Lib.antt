mod Queries
mod Reports
